-- Patterns of labels.
use Rattle.std.specs.Prelude.{ℕ, Bool, true, false, ◌==◌, ◌&&◌, ◌||◌, List, [], ◌∷◌, if◌then◌else◌}
use Rattle.std.specs.List.{list_any, slice_split}

-- what is left of a text from each place on
abbrev pub suffixes : List ℕ → List (List ℕ)
suffixes [] = [] ∷ []
suffixes (b ∷ text) = (b ∷ text) ∷ suffixes text

-- `?` stands for any byte, and another byte for itself
abbrev pub is_like : ℕ → ℕ → Bool
is_like p b = p == 63 || p == b

-- a text begins with a byte, and the rest of it is as it should be
abbrev pub next_like : ℕ → List ℕ → (List ℕ → Bool) → Bool
next_like p [] rest = false
next_like p (b ∷ text) rest = is_like p b && rest text

abbrev pub is_star : ℕ → Bool
is_star b = b == 42

-- whether a part of a pattern stands for a text: `*` stands for any run of bytes, the empty one too
unfoldable pub spells : List ℕ → List ℕ → Bool
spells [] [] = true
spells [] (b ∷ text) = false
spells (p ∷ part) text = if is_star p then list_any (spells part) (suffixes text) else next_like p text (spells part)

abbrev pub is_comma : ℕ → Bool
is_comma b = b == 44

-- whether one of the parts between the commas of a pattern stands for a label
abbrev pub matches : List ℕ → List ℕ → Bool
matches pattern label = list_any (λ part. spells part label) (slice_split is_comma pattern)
