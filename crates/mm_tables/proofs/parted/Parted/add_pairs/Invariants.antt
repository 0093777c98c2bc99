use Rattle.std.proofs.Common.{◌≡◌, ◌++◌, take}
use Rattle.mm_tables.specs.Distinct.{pairs_with}
use Rattle.mm_tables.proofs.parted.Parted.add_pairs.Given as goal

abbrev pub invariant-loop-second : goal.invariant-loop-second
invariant-loop-second l = l.pairs.items ≡ l.fn.pairs.items ++ pairs_with l.self l.first (take l.second-index l.later)
