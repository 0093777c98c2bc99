-- Texts in which each run of white space is one space, and phrases in texts.
use Rattle.std.specs.Prelude.{◌≡◌, ℕ, Bool, true, false, ◌&&◌, ◌||◌, ◌==◌, List, [], ◌∷◌, ◌++◌, if◌then◌else◌}
use Rattle.mm_tokens.specs.Bytes.{is_white}

-- a text that goes on after white space or not, with one space for each maximal run of white space
unfoldable pub folded_after : Bool → List ℕ → List ℕ
folded_after white [] = []
folded_after white (b ∷ bs) =
    if is_white b then (if white then folded_after true bs else 32 ∷ folded_after true bs)
    else b ∷ folded_after false bs

abbrev pub folded : List ℕ → List ℕ
folded text = folded_after false text

-- whether the text begins with the phrase
unfoldable pub begins : List ℕ → List ℕ → Bool
begins [] text = true
begins (p ∷ ps) [] = false
begins (p ∷ ps) (b ∷ bs) = p == b && begins ps bs

-- whether the phrase begins at some place of the text, the end too
unfoldable pub holds : List ℕ → List ℕ → Bool
holds phrase [] = begins phrase []
holds phrase (b ∷ bs) = begins phrase (b ∷ bs) || holds phrase bs

-- the phrase stands somewhere in the text
abbrev pub StandsIn : List ℕ → List ℕ → Type 0
StandsIn phrase text = (front : List ℕ) × ((rest : List ℕ) × (text ≡ front ++ (phrase ++ rest)))
