use Rattle.std.proofs.Common.{◌≡◌, ◌≤◌, length}
use Rattle.mm_trace.specs.Marks.{Spreads}
use Rattle.mm_trace.proofs.Spreading.{with_marked}
use Rattle.mm_trace.proofs.trace.Trace.grounds.Given as goal

abbrev pub invariant-loop-left : goal.invariant-loop-left
invariant-loop-left l = record {
  count : length l.marks.items ≡ length l.self;
  below : l.left ≤ length l.self;
  spreads : Spreads (with_marked l.self l.fn.marked) (length l.self) l.left l.marks.items;
}

abbrev pub decreases-loop-left : goal.decreases-loop-left
decreases-loop-left l = l.left
