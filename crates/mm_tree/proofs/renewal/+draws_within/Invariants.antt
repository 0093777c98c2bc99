use Rattle.std.proofs.Common.{◌≡◌, [], min, take}
use Rattle.std.specs.List.{sum_by}
use Rattle.mm_plain.specs.Drawing.{draws_of}
use Rattle.mm_tree.specs.Meanings.{count, means}
use Rattle.mm_tree.specs.View.{values}
use Rattle.mm_tree.proofs.renewal.+draws_within.Given as goal

abbrev pub decreases-draws_within : goal.decreases-draws_within
decreases-draws_within l = count l.node.now

abbrev pub invariant-loop-kid : goal.invariant-loop-kid
invariant-loop-kid l = l.needed ≡ min (sum_by (draws_of l.db) (take l.kid-index (means [] (values l.kid-items)))) l.bound
