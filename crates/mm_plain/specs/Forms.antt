-- The form of each labelled statement of a database (Metamath book, section 4.1.3).
use Rattle.std.specs.Prelude.{◌≡◌, ◌≤◌, ◌<◌, ℕ, true, false, length, slice_index, All, List}
use Rattle.mm_scope.specs.Contents.{symbols_of, stated_at, is_variable_of}
use Rattle.mm_scope.specs.Steps.{most_symbols}
use Rattle.mm_stated.specs.declared.statement.Kind.TheVariants as kind

-- the first symbol of a statement
abbrev pub typecode_at : List ℕ → ℕ → ℕ
typecode_at bytes id = slice_index (stated_at bytes id).symbols 0

-- Its symbols are the database's own, not too many, and the first is a constant. A `$f` has two, and the second is a
-- variable.
pub record IsFormed (bytes : List ℕ) (id : ℕ) : Type 0 where
  pub symbols : All (λ n. n < length (symbols_of bytes)) (stated_at bytes id).symbols
  pub short : length (stated_at bytes id).symbols ≤ most_symbols
  pub some : 0 < length (stated_at bytes id).symbols
  pub typecode : is_variable_of bytes (typecode_at bytes id) ≡ false
  pub pair : (stated_at bytes id).kind ≡ kind.Float → length (stated_at bytes id).symbols ≡ 2
  pub variable : (stated_at bytes id).kind ≡ kind.Float → is_variable_of bytes (slice_index (stated_at bytes id).symbols 1) ≡ true
