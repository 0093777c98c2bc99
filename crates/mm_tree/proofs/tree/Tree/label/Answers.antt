use Rattle.std.proofs.Common.{true, ap, sym, ◌∙◌, arith}
use Rattle.mm_plain.specs.declared.plain.Plain.{Plain}
use Rattle.mm_plain.specs.Shape.{size_of, step_at}
use Rattle.mm_plain.specs.Sources.{label_of}
use Rattle.mm_tree.specs.Versions.{line_of}
use Rattle.mm_tree.proofs.Shapes.{size_of-mean}
use Rattle.mm_tree.proofs.tree.Tree.label.Goals as goal

pub at-requires : goal.at-requires
at-requires c = (omega (arith, c.from.ensures, c.requires.0), omega (arith, c.from.ensures, c.requires.1, size_of-mean (line_of c.args.self.now.versions true) c.hand.result.now, ap size_of c.hand.ensures.plain))

pub returns-in-Some : goal.returns-in-Some
returns-in-Some c = sym c.in-Some.is ∙ c.label.ensures (line_of c.args.self.now.versions true) ∙ ap label_of (c.at.ensures.same (line_of c.args.self.now.versions true) ∙ (ap (λ (x : Plain). step_at x c.from.result) c.hand.ensures.plain ∙ ap (step_at c.args.self.now.proof.plain) c.from.ensures))

pub returns-in-None : goal.returns-in-None
returns-in-None c = sym c.in-None.is ∙ c.label.ensures (line_of c.args.self.now.versions true) ∙ ap label_of (c.at.ensures.same (line_of c.args.self.now.versions true) ∙ (ap (λ (x : Plain). step_at x c.from.result) c.hand.ensures.plain ∙ ap (step_at c.args.self.now.proof.plain) c.from.ensures))
