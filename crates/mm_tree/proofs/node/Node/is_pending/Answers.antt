use Rattle.std.proofs.Common.{refl, ap, sym, ◌∙◌}
use Rattle.mm_plain.specs.Sources.{is_pending}
use Rattle.mm_plain.proofs.Read.{is_pending-unknown}
use Rattle.mm_plain.proofs.Walks.{own-label}
use Rattle.mm_tree.specs.Meanings.{mean, means, text_now, sigma_now}
use Rattle.mm_tree.specs.View.{timed_of, values}
use Rattle.mm_tree.proofs.Kids.{is-known, is-unknown, pending-by}
use Rattle.mm_tree.proofs.node.Node.is_pending.Goals as goal

pub fits-requires : goal.fits-requires
fits-requires c = own-label c.args.db.now (text_now c.args.line.now c.in-Known.target.value) c.in-Known.label (sigma_now c.args.line.now c.in-Known.sigma.value) (means c.args.line.now (values c.in-Known.field-3.items)) (mean c.args.self.now c.args.line.now) (is-known c.in-Known.target.value c.in-Known.label c.in-Known.sigma.value (values c.in-Known.field-3.items) c.args.self.now (ap timed_of (sym c.in-Known.is) ∙ c.self.view_is) c.args.line.now) c.requires

pub returns-in_ok-source-in-Known : goal.returns-in_ok-source-in-Known
returns-in_ok-source-in-Known c = sym (pending-by c.args.db.now c.args.line.now c.in-Known.target.value c.deref.result.now c.in-Known.label c.in-Known.sigma.value c.deref-in-Known.result.now (values c.in-Known.field-3.items) c.args.self.now c.in_ok-source-in-Known.source c.in_ok-source-in-Known.source
    (ap timed_of (sym c.in-Known.is) ∙ c.self.view_is) c.deref.ensures c.deref-in-Known.ensures c.in_ok-source-in-Known.ensures refl)

pub returns-in-Unknown : goal.returns-in-Unknown
returns-in-Unknown c = sym (ap (is_pending c.args.db.now) (sym (is-unknown c.in-Unknown.field-0.value c.args.self.now (ap timed_of (sym c.in-Unknown.is) ∙ c.self.view_is) c.args.line.now)) ∙ is_pending-unknown c.args.db.now (text_now c.args.line.now c.in-Unknown.field-0.value))
