-- The text of a normal proof: its tokens on lines.
use Rattle.std.specs.Prelude.{ℕ, ◌+◌, Bool, List, [], ◌∷◌, ◌++◌, length, nat_le, flat_map, if◌then◌else◌}

-- what a line begins with: six spaces
abbrev pub margin : List ℕ
margin = 32 ∷ 32 ∷ 32 ∷ 32 ∷ 32 ∷ 32 ∷ []

-- whether a token fits on a line of so many bytes, behind a space
abbrev pub fits : ℕ → List ℕ → Bool
fits column token = nat_le (column + 1 + length token) 79

-- the lines from the one in hand on: each token goes on the same line where it fits, else on the next
unfoldable pub filled : List ℕ → List (List ℕ) → List (List ℕ)
filled line [] = line ∷ []
filled line (token ∷ later) =
    if fits (length line) token then filled (line ++ 32 ∷ token) later
    else line ∷ filled (margin ++ token) later

-- the lines of these tokens
unfoldable pub lines_of : List (List ℕ) → List (List ℕ)
lines_of [] = []
lines_of (token ∷ later) = filled (margin ++ token) later

-- each line behind a LF
abbrev pub behind_feeds : List (List ℕ) → List ℕ
behind_feeds lines = flat_map (λ line. 10 ∷ line) lines

-- each line behind a LF, and a space at the end
abbrev pub normal_text : List (List ℕ) → List ℕ
normal_text tokens = behind_feeds (lines_of tokens) ++ 32 ∷ []
