use Rattle.std.proofs.Common.{◌≡◌, true, IfOk, ap, sym, subst, ◌∙◌, arith}
use Rattle.mm_plain.specs.declared.plain.Plain.{Plain}
use Rattle.mm_plain.specs.Shape.{size_of, step_at}
use Rattle.mm_plain.specs.Numbers.{HasOwnLabels}
use Rattle.mm_plain.specs.Sources.{source_of}
use Rattle.mm_tree.specs.Meanings.{mean}
use Rattle.mm_tree.specs.Versions.{line_of}
use Rattle.mm_tree.proofs.Shapes.{size_of-mean}
use Rattle.mm_tree.proofs.Made.{own-part}
use Rattle.mm_tree.proofs.tree.Tree.source.Goals as goal

pub at-requires : goal.at-requires
at-requires c = (omega (arith, c.from.ensures, c.requires.exists.0), omega (arith, c.from.ensures, c.requires.exists.1, size_of-mean (line_of c.args.self.now.versions true) c.hand.result.now, ap size_of c.hand.ensures.plain))

pub source-requires : goal.source-requires
source-requires c = subst (HasOwnLabels c.args.db.now) (sym (ap (mean c.at.result.now) c.line.ensures ∙ c.at.ensures.same (line_of c.args.self.now.versions true) ∙ (ap (λ (x : Plain). step_at x c.from.result) c.hand.ensures.plain ∙ ap (step_at c.args.self.now.proof.plain) c.from.ensures))) (own-part c.args.db.now c.args.self.now.proof.plain c.args.step c.requires.exists.0 c.requires.exists.1 c.requires.own)

pub returns : goal.returns
returns c = subst (λ (x : Plain). IfOk c.source.result (λ s. s ≡ source_of c.args.db.now x)) (ap (mean c.at.result.now) c.line.ensures ∙ c.at.ensures.same (line_of c.args.self.now.versions true) ∙ (ap (λ (x : Plain). step_at x c.from.result) c.hand.ensures.plain ∙ ap (step_at c.args.self.now.proof.plain) c.from.ensures)) c.source.ensures
