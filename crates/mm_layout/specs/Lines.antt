-- What the lines of a normal proof are, in words of its tokens alone.
use Rattle.std.specs.Prelude.{◌≡◌, ℕ, ◌+◌, ◌<◌, ◌≤◌, ◌⊎◌, List, [], ◌∷◌, ◌++◌, length, All, flat_map}
use Rattle.mm_layout.specs.Normal.{margin}

-- the tokens of a line, which are one or more
pub record Group : Type 0 where
  pub first : List ℕ
  pub later : List (List ℕ)

abbrev pub tokens_of : Group → List (List ℕ)
tokens_of g = g.first ∷ g.later

-- their line: the margin, and the tokens with a space between each two
abbrev pub line_of : Group → List ℕ
line_of g = margin ++ g.first ++ flat_map (λ t. 32 ∷ t) g.later

-- a line is short, but for one token that is long
abbrev pub IsShort : Group → Type 0
IsShort g = (length (line_of g) ≤ 79) ⊎ (g.later ≡ [])

-- the next line's first token would not fit behind
abbrev pub IsFullBefore : Group → List Group → Type 0
IsFullBefore g [] = Unit {0}
IsFullBefore g (next ∷ gs) = 79 < length (line_of g) + 1 + length next.first

abbrev pub AreFull : List Group → Type 0
AreFull [] = Unit {0}
AreFull (g ∷ gs) = IsFullBefore g gs × AreFull gs

-- these groups are the tokens in order, and each line is short and full
pub record AreGroups (tokens : List (List ℕ)) (groups : List Group) : Type 0 where
  pub whole : flat_map tokens_of groups ≡ tokens
  pub short : All IsShort groups
  pub full : AreFull groups
