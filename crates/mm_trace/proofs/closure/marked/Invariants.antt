use Rattle.std.proofs.Common.{◌≡◌, false, filter, get_or, map}
use Rattle.std.specs.List.{range_with_len}
use Rattle.mm_trace.proofs.closure.marked.Given as goal

abbrev pub invariant-loop-id : goal.invariant-loop-id
invariant-loop-id l = map (λ i. i.0) l.ids.items ≡ filter (λ n. get_or l.marks n false) (range_with_len 0 l.id)
