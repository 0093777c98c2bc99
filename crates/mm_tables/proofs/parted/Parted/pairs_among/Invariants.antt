use Rattle.std.proofs.Common.{◌≡◌, ◌++◌, drop}
use Rattle.mm_tables.specs.Distinct.{pairs_among}
use Rattle.mm_tables.proofs.parted.Parted.pairs_among.Given as goal

abbrev pub invariant-loop-place : goal.invariant-loop-place
invariant-loop-place l = l.pairs.items ++ pairs_among l.self (drop l.place l.variables) ≡ pairs_among l.self l.variables
