use Rattle.std.proofs.Common.{◌≡◌, ◌+◌, drop}
use Rattle.mm_tree.specs.View.{counts}
use Rattle.mm_tree.proofs.node.steps_over.Given as goal

abbrev pub invariant-loop-kid : goal.invariant-loop-kid
invariant-loop-kid l = l.steps + counts (drop l.kid-index l.kids) ≡ counts l.kids + 1
