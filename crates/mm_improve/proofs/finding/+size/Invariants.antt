use Rattle.std.proofs.Common.{◌≡◌, ◌≤◌, ◌+◌, ◌*◌, take}
use Rattle.std.specs.List.{sum_by}
use Rattle.mm_plain.specs.Shape.{size_of}
use Rattle.mm_plain.specs.Valid.{most_steps}
use Rattle.mm_improve.specs.Finding.{kids_at}
use Rattle.mm_improve.specs.Searches.{terms}
use Rattle.mm_improve.proofs.finding.+size.Given as goal

abbrev pub decreases-found_size : goal.decreases-found_size
decreases-found_size l = 3 * l.depth

abbrev pub decreases-use_size : goal.decreases-use_size
decreases-use_size l = 3 * l.depth + 2

abbrev pub decreases-premise_size : goal.decreases-premise_size
decreases-premise_size l = 3 * l.depth + 1

abbrev pub invariant-use_size-loop-premise : goal.invariant-use_size-loop-premise
invariant-use_size-loop-premise l = record {
  counted : l.steps ≡ 1 + sum_by size_of (take l.premise-index (kids_at (terms l.db l.prover.search) l.depth l.used));
  few : l.steps ≤ most_steps;
}
