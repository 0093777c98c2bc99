-- The typecodes of the variables that `$f` statements give.
use Rattle.std.specs.Prelude.{◌≡◌, ℕ, Bool, ◌==◌, List, filter_map}
use Rattle.std.specs.List.{list_any}
use Rattle.mm_tables.specs.Marked.{is_marked}
use Rattle.mm_stated.specs.Stated.{Stated, typecode_of}

abbrev pub is_typecode_among : List Stated → ℕ → Bool
is_typecode_among statements s = list_any (λ n. s == n) (filter_map typecode_of statements)

-- the marks are on the typecodes of the `$f` among statements
abbrev pub AreTypecodes : List Bool → List Stated → Type 0
AreTypecodes marks statements = (n : ℕ) → is_marked marks n ≡ is_typecode_among statements n
