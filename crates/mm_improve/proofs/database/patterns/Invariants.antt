use Rattle.std.proofs.Common.{◌≡◌, ◌&&◌, not, map, filter}
use Rattle.std.specs.List.{range_with_len}
use Rattle.mm_improve.specs.Assertions.{has_essential, may_be_used}
use Rattle.mm_improve.specs.Grammars.{assertion_of}
use Rattle.mm_improve.specs.Narrow.{is_taken}
use Rattle.mm_improve.specs.Searches.{terms}
use Rattle.mm_improve.proofs.database.patterns.Given as goal

abbrev pub invariant-loop-id : goal.invariant-loop-id
invariant-loop-id l =
    l.patterns.items ≡ filter (λ a. is_taken l.db l.narrow a.code) (map (assertion_of l.db) (filter (λ id. may_be_used (terms l.db l.search) id && not (has_essential l.db id)) (range_with_len 0 l.id)))
