-- Statements of a database as strings.
use Rattle.std.specs.Prelude.{ℕ, List, map, if◌then◌else◌}
use Rattle.mm_scope.specs.Contents.{stated_at, is_variable_of}
use Rattle.mm_subst.specs.declared.symbol.WSym.{WSym}
use Rattle.mm_subst.specs.declared.symbol.WSym.TheVariants.{Const, Var}

-- a symbol of the database by its number: a variable as Var, and a constant as Const
abbrev pub symbol_of : List ℕ → ℕ → WSym
symbol_of bytes n = if is_variable_of bytes n then Var n else Const n

-- the string of the statement with an id
unfoldable pub statement_of : List ℕ → ℕ → List WSym
statement_of bytes id = map (symbol_of bytes) (stated_at bytes id).symbols
