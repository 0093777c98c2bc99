use Rattle.std.proofs.Common.{◌≡◌, ◌+◌, ◌-◌, length, drop}
use Rattle.mm_tree.specs.View.{counts}
use Rattle.mm_tree.proofs.node.steps_from.Given as goal

abbrev pub decreases-loop-at : goal.decreases-loop-at
decreases-loop-at l = length l.kids - l.at

abbrev pub invariant-loop-at : goal.invariant-loop-at
invariant-loop-at l = l.steps + counts (drop l.at l.kids) ≡ counts (drop l.first l.kids)
