use Rattle.std.proofs.Common.{◌≡◌, filter, map}
use Rattle.std.specs.List.{range_with_len}
use Rattle.mm_trace.specs.Uses.{uses}
use Rattle.mm_trace.proofs.closure.users.Given as goal

abbrev pub invariant-loop-id : goal.invariant-loop-id
invariant-loop-id l = map (λ i. i.0) l.ids.items ≡ filter (λ m. uses l.db m l.fn.on.0) (range_with_len 0 l.id)
