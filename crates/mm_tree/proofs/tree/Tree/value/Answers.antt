use Rattle.std.proofs.Common.{true, ap, arith}
use Rattle.mm_plain.specs.Shape.{size_of}
use Rattle.mm_tree.specs.Versions.{line_of}
use Rattle.mm_tree.proofs.Shapes.{size_of-mean}
use Rattle.mm_tree.proofs.tree.Tree.value.Goals as goal

pub at-requires : goal.at-requires
at-requires c = (omega (arith, c.from.ensures, c.requires.exists.0), omega (arith, c.from.ensures, c.requires.exists.1, size_of-mean (line_of c.args.self.now.versions true) c.hand.result.now, ap size_of c.hand.ensures.plain))
