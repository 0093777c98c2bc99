use Rattle.std.proofs.Common.{◌≡◌, map, take}
use Rattle.mm_subst.specs.Statements.{symbol_of}
use Rattle.mm_subst.proofs.stated.statement.Given as goal

abbrev pub invariant-loop-number : goal.invariant-loop-number
invariant-loop-number l = l.symbols.items ≡ map (symbol_of l.db) (take l.number-index l.number-items)
