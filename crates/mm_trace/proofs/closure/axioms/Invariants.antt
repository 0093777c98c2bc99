use Rattle.std.proofs.Common.{◌≡◌, ◌&&◌, filter, map}
use Rattle.std.specs.List.{range_with_len}
use Rattle.mm_trace.specs.Uses.{depends, is_axiom}
use Rattle.mm_trace.proofs.closure.axioms.Given as goal

abbrev pub invariant-loop-n : goal.invariant-loop-n
invariant-loop-n l = map (λ i. i.0) l.ids.items ≡ filter (λ m. depends l.db l.fn.id.0 m && is_axiom l.db m) (range_with_len 0 l.n)
