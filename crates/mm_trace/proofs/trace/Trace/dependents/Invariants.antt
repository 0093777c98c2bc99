use Rattle.mm_trace.specs.Marks.{AreMarks}
use Rattle.mm_trace.specs.Traces.{rests_on_marked}
use Rattle.mm_trace.proofs.trace.Trace.dependents.Given as goal

abbrev pub invariant-loop-place : goal.invariant-loop-place
invariant-loop-place l = AreMarks (rests_on_marked l.self l.marked) l.place l.marks.items
