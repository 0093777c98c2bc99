-- Which groups hold a variable, by their numbers: the number of a group is how many stand before it.
use Rattle.std.specs.Prelude.{◌≡◌, ◌==◌, ◌-◌, ◌≤◌, ℕ, suc, Bool, List, [], ◌∷◌, ◌++◌, length, take, map, filter, slice_index_or}
use Rattle.std.specs.List.{list_any}
use Rattle.mm_tables.specs.Distinct.{is_held}

-- what is kept of a variable
abbrev pub numbers_of : List (List ℕ) → ℕ → List ℕ
numbers_of kept v = slice_index_or kept v []

-- a number, as often as the group names the variable
abbrev pub copies : ℕ → List ℕ → ℕ → List ℕ
copies number group v = map (λ _. number) (filter (λ m. v == m) group)

-- the numbers of the groups that hold the variable, rising, where the first group has this number
abbrev pub numbers_from : ℕ → List (List ℕ) → ℕ → List ℕ
numbers_from first [] v = []
numbers_from first (g ∷ gs) v = copies first g v ++ numbers_from (suc first) gs v

-- without the last so many
abbrev pub shorter : ℕ → List ℕ → List ℕ
shorter n xs = take (length xs - n) xs

-- of each variable the numbers of the groups that hold it
abbrev pub AreNumbers : List (List ℕ) → List (List ℕ) → Type 0
AreNumbers kept groups = (v : ℕ) → numbers_of kept v ≡ numbers_from 0 groups v

-- whether two lists have a number in common
abbrev pub share : List ℕ → List ℕ → Bool
share xs ys = list_any (λ x. is_held ys x) xs

-- no number is below k
abbrev pub AtLeast : ℕ → List ℕ → Type 0
AtLeast k [] = Unit {0}
AtLeast k (x ∷ xs) = (k ≤ x) × AtLeast k xs

-- none is below the one before it
abbrev pub IsRising : List ℕ → Type 0
IsRising [] = Unit {0}
IsRising (x ∷ xs) = AtLeast x xs × IsRising xs
