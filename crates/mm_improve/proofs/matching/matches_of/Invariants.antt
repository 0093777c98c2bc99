use Rattle.std.proofs.Common.{◌≡◌, map, filter, take}
use Rattle.std.specs.List.{AllByRecursion}
use Rattle.mm_improve.specs.Assertions.{are_apart, sigma_by}
use Rattle.mm_improve.specs.Finding.{HasStrings}
use Rattle.mm_improve.specs.Searches.{terms}
use Rattle.mm_improve.proofs.matching.matches_of.Given as goal

abbrev pub invariant-loop-theta : goal.invariant-loop-theta
invariant-loop-theta l = record {
  matches : l.matches.items ≡ filter (are_apart (terms l.db l.prover.search) l.fn.id.0) (map (sigma_by l.db l.fn.id.0) (take l.theta-index l.theta-items));
  values : AllByRecursion (HasStrings l.db l.prover.search.at.0) l.matches.items;
}
