use Rattle.std.proofs.Common.{false, get_or}
use Rattle.mm_trace.specs.Marks.{AreMarks}
use Rattle.mm_trace.proofs.trace.Trace.own_marks.Given as goal

abbrev pub invariant-loop-place : goal.invariant-loop-place
invariant-loop-place l = AreMarks (λ n. get_or l.marked n false) l.place l.marks.items
