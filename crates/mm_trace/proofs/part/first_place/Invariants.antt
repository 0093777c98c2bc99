use Rattle.std.proofs.Common.{◌≡◌, ◌<◌, ℕ, false, drop}
use Rattle.mm_trace.specs.Segments.{begins}
use Rattle.mm_trace.proofs.part.first_place.Given as goal

abbrev pub invariant-loop-at : goal.invariant-loop-at
invariant-loop-at l = (k : ℕ) → k < l.at → begins l.front (drop k l.text) ≡ false
