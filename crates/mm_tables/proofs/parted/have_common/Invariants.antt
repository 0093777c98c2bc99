use Rattle.std.proofs.Common.{◌+◌, ◌-◌, length}
use Rattle.mm_tables.proofs.Numbered.{IsMerging}
use Rattle.mm_tables.proofs.parted.have_common.Given as goal

abbrev pub invariant-loop-place : goal.invariant-loop-place
invariant-loop-place l = IsMerging l.left l.right l.place l.other

abbrev pub decreases-loop-place : goal.decreases-loop-place
decreases-loop-place l = (length l.left - l.place) + (length l.right - l.other)
