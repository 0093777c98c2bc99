-- Marks on numbers.
use Rattle.std.specs.Prelude.{ℕ, Bool, false, ◌==◌, List, [], ◌∷◌, ◌++◌, slice_index_or, map, if◌then◌else◌}
use Rattle.std.specs.List.{list_any}

-- a number is marked where its stamp is that of the turn
abbrev pub flags_of : List ℕ → ℕ → List Bool
flags_of stamps turn = map (λ s. s == turn) stamps

abbrev pub is_marked : List Bool → ℕ → Bool
is_marked flags n = slice_index_or flags n false

-- with n at its end, unless it is there
abbrev pub with_number : List ℕ → ℕ → List ℕ
with_number ns n = if list_any (λ m. n == m) ns then ns else ns ++ n ∷ []
