use Rattle.std.proofs.Common.{◌≡◌, ◌+◌, length, map, take}
use Rattle.mm_subst.specs.Applied.{most_symbols}
use Rattle.mm_subst.specs.Statements.{symbol_of}
use Rattle.mm_subst.specs.Substitutions.{applied}
use Rattle.mm_tree.proofs.lengths.is_long_source.Given as goal

abbrev pub invariant-loop-number : goal.invariant-loop-number
invariant-loop-number l = l.room + length (applied l.theta (applied l.sigma (map (symbol_of l.db) (take l.number-index l.number-items)))) ≡ most_symbols
