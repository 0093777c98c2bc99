-- What a symbol table holds.
use Rattle.std.specs.Prelude.{ℕ, List}
use Rattle.mm_tables.specs.declared.table.Standing.{Standing}

-- the texts of the symbols, and what is in force of each
pub record Standings : Type 0 where
  pub texts : List (List ℕ)
  pub standings : List Standing
