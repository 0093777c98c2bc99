use Rattle.std.proofs.Common.{◌≡◌, length}
use Rattle.mm_trace.specs.Patterns.{matches}
use Rattle.mm_trace.proofs.pattern.matches.Given as goal

abbrev pub invariant-loop-comma : goal.invariant-loop-comma
invariant-loop-comma l = matches l.pattern l.label ≡ matches l.left l.label

abbrev pub decreases-loop-comma : goal.decreases-loop-comma
decreases-loop-comma l = length l.left
