use Rattle.std.proofs.Common.{Some, ap, sym, ◌∙◌}
use Rattle.mm_subst.specs.Statements.{statement_of}
use Rattle.mm_subst.specs.Substitutions.{applied}
use Rattle.mm_plain.specs.Sources.{source_of}
use Rattle.mm_plain.proofs.Read.{source_of-known, source_of-unknown}
use Rattle.mm_plain.proofs.Walks.{own-label}
use Rattle.mm_tree.specs.declared.timed.Values.{Values}
use Rattle.mm_tree.specs.Meanings.{mean, means, text_now, sigma_now}
use Rattle.mm_tree.specs.View.{timed_of, values}
use Rattle.mm_tree.proofs.Kids.{is-known, is-unknown}
use Rattle.mm_tree.proofs.node.Node.source.Goals as goal

pub source-requires : goal.source-requires
source-requires c = own-label c.args.db.now (text_now c.args.line.now c.in-Known.field-0.value) c.in-Known.label (sigma_now c.args.line.now c.in-Known.sigma.value) (means c.args.line.now (values c.in-Known.field-3.items)) (mean c.args.self.now c.args.line.now) (is-known c.in-Known.field-0.value c.in-Known.label c.in-Known.sigma.value (values c.in-Known.field-3.items) c.args.self.now (ap timed_of (sym c.in-Known.is) ∙ c.self.view_is) c.args.line.now) c.requires

pub returns-in_ok-source-in-Known : goal.returns-in_ok-source-in-Known
returns-in_ok-source-in-Known c = ap Some (c.in_ok-source-in-Known.ensures ∙ ap (λ (s : Values). applied (sigma_now c.args.line.now s) (statement_of c.args.db.now c.in-Known.label)) c.deref.ensures)
    ∙ sym (source_of-known c.args.db.now (text_now c.args.line.now c.in-Known.field-0.value) c.in-Known.label (sigma_now c.args.line.now c.in-Known.sigma.value) (means c.args.line.now (values c.in-Known.field-3.items)))
    ∙ ap (source_of c.args.db.now) (is-known c.in-Known.field-0.value c.in-Known.label c.in-Known.sigma.value (values c.in-Known.field-3.items) c.args.self.now (ap timed_of (sym c.in-Known.is) ∙ c.self.view_is) c.args.line.now)

pub returns-in-Unknown : goal.returns-in-Unknown
returns-in-Unknown c = sym (ap (source_of c.args.db.now) (sym (is-unknown c.in-Unknown.field-0.value c.args.self.now (ap timed_of (sym c.in-Unknown.is) ∙ c.self.view_is) c.args.line.now)) ∙ source_of-unknown c.args.db.now (text_now c.args.line.now c.in-Unknown.field-0.value))
