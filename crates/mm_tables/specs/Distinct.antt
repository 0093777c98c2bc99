-- The pairs of variables that `$d` statements part (Metamath book, section 4.2.2).
use Rattle.std.specs.Prelude.{◌≡◌, ◌==◌, ℕ, Bool, not, ◌&&◌, List, [], ◌∷◌, ◌++◌, map, filter, Contains}
use Rattle.std.specs.List.{list_any}

abbrev pub is_held : List ℕ → ℕ → Bool
is_held group u = list_any (λ m. u == m) group

abbrev pub holds_both : ℕ → ℕ → List ℕ → Bool
holds_both u v group = is_held group u && is_held group v

-- u and v differ, and some group holds both
unfoldable pub are_distinct : List (List ℕ) → ℕ → ℕ → Bool
are_distinct groups u v = not (u == v) && list_any (holds_both u v) groups

-- the pairs of a variable with those of the list that must differ from it
abbrev pub pairs_with : List (List ℕ) → ℕ → List ℕ → List (ℕ × ℕ)
pairs_with groups u vs = map (λ v. (u, v)) (filter (λ v. are_distinct groups u v) vs)

-- for each variable of the list in order, its pairs with the later ones that must differ from it, in order
unfoldable pub pairs_among : List (List ℕ) → List ℕ → List (ℕ × ℕ)
pairs_among groups [] = []
pairs_among groups (u ∷ vs) = pairs_with groups u vs ++ pairs_among groups vs

-- u stands in the list, and v somewhere after it
pub record StandsBefore (vs : List ℕ) (u v : ℕ) : Type 0 where
  pub earlier : List ℕ
  pub later : List ℕ
  pub whole : vs ≡ earlier ++ u ∷ later
  pub follows : Contains later v
