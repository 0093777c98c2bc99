use Rattle.std.proofs.Common.{arith}
use Rattle.mm_tree.proofs.Kids.{talls-le-counts}
use Rattle.mm_tree.proofs.node.levels_over.Goals as goal

pub overflow_add-result : goal.overflow_add-result
overflow_add-result c = let i = c.loop-kid.invariant in omega (arith, talls-le-counts c.args.kids.now, c.requires)
