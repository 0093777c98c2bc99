-- Parts of patterns, cut at their `*`.
use Rattle.std.specs.Prelude.{◌≡◌, ◌≤◌, ◌<◌, ◌-◌, ℕ, Bool, true, false, ◌&&◌, ◌==◌, nat_le, List, [], ◌∷◌, ◌++◌, length, drop, Option, None, Some}
use Rattle.std.specs.List.{list_any}
use Rattle.mm_trace.specs.Patterns.{next_like}

-- a text begins with bytes like these, of which none is `*`
unfoldable pub begins : List ℕ → List ℕ → Bool
begins [] text = true
begins (p ∷ front) text = next_like p text (begins front)

-- it ends with them
abbrev pub ends : List ℕ → List ℕ → Bool
ends back text = nat_le (length back) (length text) && begins back (drop (length text - length back) text)

-- bytes, and behind them a byte and the rest, if there is one
abbrev pub joined : ℕ → List ℕ → Option (List ℕ) → List ℕ
joined c front None = front
joined c front (Some rest) = front ++ c ∷ rest

-- bytes are cut at the first c
pub record IsCut (c : ℕ) (bytes front : List ℕ) (rest : Option (List ℕ)) : Type 0 where
  pub free : list_any (λ b. b == c) front ≡ false
  pub whole : bytes ≡ joined c front rest

-- a text begins with bytes like these at no place
abbrev pub IsNowhere : List ℕ → List ℕ → Type 0
IsNowhere front text = (k : ℕ) → k ≤ length text → begins front (drop k text) ≡ false

-- the first place where it does
pub record IsFirst (front text : List ℕ) (at : ℕ) : Type 0 where
  pub within : at ≤ length text
  pub there : begins front (drop at text) ≡ true
  pub before : (k : ℕ) → k < at → begins front (drop k text) ≡ false
