use Rattle.std.proofs.Common.{true, ap, sym, ◌∙◌, arith}
use Rattle.mm_plain.specs.Shape.{size_of}
use Rattle.mm_tree.specs.Versions.{line_of}
use Rattle.mm_tree.proofs.Shapes.{size_of-mean}
use Rattle.mm_tree.proofs.tree.Tree.size.Goals as goal

pub overflow_cast-result : goal.overflow_cast-result
overflow_cast-result c = omega (arith, c.size.ensures, c.hand.ensures.few)

pub returns : goal.returns
returns c = c.size.ensures ∙ sym (size_of-mean (line_of c.args.self.now.versions true) c.hand.result.now) ∙ ap size_of c.hand.ensures.plain
