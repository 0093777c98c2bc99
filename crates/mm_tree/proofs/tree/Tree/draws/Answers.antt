use Rattle.std.proofs.Common.{◌≡◌, [], true, ap, sym, subst, ◌∙◌, arith}
use Rattle.mm_plain.specs.declared.plain.Plain.{Plain}
use Rattle.mm_plain.specs.Drawing.{draws_of}
use Rattle.mm_plain.specs.Numbers.{HasOwnLabels}
use Rattle.mm_plain.specs.Shape.{size_of, step_at}
use Rattle.mm_tree.specs.Versions.{line_of}
use Rattle.mm_tree.proofs.Bared.{own-line}
use Rattle.mm_tree.proofs.Made.{own-part}
use Rattle.mm_tree.proofs.Renewed.{draws-mean}
use Rattle.mm_tree.proofs.Shapes.{size_of-mean}
use Rattle.mm_tree.proofs.tree.Tree.draws.Goals as goal

pub at-requires : goal.at-requires
at-requires c = (omega (arith, c.from.ensures, c.requires.exists.0), omega (arith, c.from.ensures, c.requires.exists.1, size_of-mean (line_of c.args.self.now.versions true) c.hand.result.now, ap size_of c.hand.ensures.plain))

pub draws_within-requires : goal.draws_within-requires
draws_within-requires c = own-line c.args.db.now (line_of c.args.self.now.versions true) [] c.at.result.now
    (subst (HasOwnLabels c.args.db.now) (sym (c.at.ensures.same (line_of c.args.self.now.versions true) ∙ (ap (λ (x : Plain). step_at x c.from.result) c.hand.ensures.plain ∙ ap (step_at c.args.self.now.proof.plain) c.from.ensures))) (own-part c.args.db.now c.args.self.now.proof.plain c.args.step c.requires.exists.0 c.requires.exists.1 c.requires.own))

pub returns : goal.returns
returns c =
    let part = (c.at.ensures.same (line_of c.args.self.now.versions true) ∙ (ap (λ (x : Plain). step_at x c.from.result) c.hand.ensures.plain ∙ ap (step_at c.args.self.now.proof.plain) c.from.ensures)) in
    omega (arith, c.draws_within.ensures, draws-mean c.args.db.now (line_of c.args.self.now.versions true) c.at.result.now, ap (draws_of c.args.db.now) part)
