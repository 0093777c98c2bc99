use Rattle.mm_trace.specs.Marks.{AreMarks}
use Rattle.mm_trace.specs.Uses.{depends}
use Rattle.mm_trace.proofs.closure.dependent_marks.Given as goal

abbrev pub invariant-loop-id : goal.invariant-loop-id
invariant-loop-id l = AreMarks (λ n. depends l.db n l.fn.on.0) l.id l.marks.items
