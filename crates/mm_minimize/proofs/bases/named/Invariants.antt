use Rattle.mm_trace.specs.Marks.{AreMarks}
use Rattle.mm_minimize.specs.Candidates.{is_named}
use Rattle.mm_minimize.proofs.bases.named.Given as goal

abbrev pub invariant-loop-id : goal.invariant-loop-id
invariant-loop-id l = AreMarks (is_named l.db l.pattern) l.id l.marks.items
