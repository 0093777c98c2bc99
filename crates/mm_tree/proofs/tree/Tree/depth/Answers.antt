use Rattle.std.proofs.Common.{true, ap, sym, ◌∙◌, arith}
use Rattle.mm_plain.specs.declared.plain.Plain.{Plain}
use Rattle.mm_plain.specs.Shape.{size_of, depth_at}
use Rattle.mm_tree.specs.Versions.{line_of}
use Rattle.mm_tree.proofs.Shapes.{size_of-mean, depth_at-mean}
use Rattle.mm_tree.proofs.tree.Tree.depth.Goals as goal

pub depth-requires-clause-exists : goal.depth-requires-clause-exists
depth-requires-clause-exists c = (omega (arith, c.from.ensures, c.requires.0), omega (arith, c.from.ensures, c.requires.1, size_of-mean (line_of c.args.self.now.versions true) c.hand.result.now, ap size_of c.hand.ensures.plain))

pub returns : goal.returns
returns c = c.depth.ensures.depth ∙ sym (depth_at-mean (line_of c.args.self.now.versions true) c.hand.result.now c.from.result) ∙ ap (λ (x : Plain). depth_at x c.from.result) c.hand.ensures.plain ∙ ap (depth_at c.args.self.now.proof.plain) c.from.ensures
