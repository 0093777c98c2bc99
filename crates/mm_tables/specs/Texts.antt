-- Lists of texts.
use Rattle.std.specs.Prelude.{ℕ, List, [], ◌∷◌, ◌++◌, Vec, map, if◌then◌else◌}
use Rattle.std.specs.List.{list_any}
use Rattle.std.specs.Str.{bytes_eq}

-- the texts of owned byte strings
abbrev pub texts : {Z : Type 0} → List (Vec ℕ Z) → List (List ℕ)
texts vs = map (λ v. v.items) vs

-- with t at its end, unless it is there
abbrev pub with_text : List (List ℕ) → List ℕ → List (List ℕ)
with_text ts t = if list_any (bytes_eq t) ts then ts else ts ++ t ∷ []
