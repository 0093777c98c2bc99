use Rattle.std.proofs.Common.{◌≡◌, length}
use Rattle.std.specs.List.{list_any}
use Rattle.mm_trace.specs.Patterns.{spells, suffixes}
use Rattle.mm_trace.proofs.part.is_within.Given as goal

abbrev pub invariant-loop-star : goal.invariant-loop-star
invariant-loop-star l = list_any (spells l.part) (suffixes l.text) ≡ list_any (spells l.back) (suffixes l.left)

abbrev pub decreases-loop-star : goal.decreases-loop-star
decreases-loop-star l = length l.back
