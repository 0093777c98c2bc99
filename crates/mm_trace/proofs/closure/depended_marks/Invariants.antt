use Rattle.std.proofs.Common.{◌≡◌, ◌≤◌, length}
use Rattle.mm_scope.specs.Contents.{labels_of}
use Rattle.mm_trace.specs.Marks.{Spreads}
use Rattle.mm_trace.specs.Uses.{uses}
use Rattle.mm_trace.proofs.closure.depended_marks.Given as goal

abbrev pub invariant-loop-left : goal.invariant-loop-left
invariant-loop-left l = record {
  count : length l.marks.items ≡ length (labels_of l.db);
  below : l.left ≤ l.fn.id.0;
  spreads : Spreads (uses l.db) l.fn.id.0 l.left l.marks.items;
}

abbrev pub decreases-loop-left : goal.decreases-loop-left
decreases-loop-left l = l.left
