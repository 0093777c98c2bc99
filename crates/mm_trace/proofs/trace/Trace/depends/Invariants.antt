use Rattle.mm_trace.specs.Marks.{AreMarks}
use Rattle.mm_trace.specs.Traces.{depends_in}
use Rattle.mm_trace.proofs.trace.Trace.depends.Given as goal

abbrev pub invariant-loop-place : goal.invariant-loop-place
invariant-loop-place l = AreMarks (λ n. depends_in l.self n l.fn.on.0) l.place l.marks.items
