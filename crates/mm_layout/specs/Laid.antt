-- The tokens that are laid so far.
use Rattle.std.specs.Prelude.{ℕ, List, [], ◌∷◌, length}
use Rattle.mm_layout.specs.Normal.{lines_of, behind_feeds}

-- the lines so far, each behind a LF, and how many bytes the last one has
pub record Laid : Type 0 where
  pub text : List ℕ
  pub column : ℕ

-- the length of the last line; before the first line there is no room
abbrev pub last_length : ℕ → List (List ℕ) → ℕ
last_length before [] = before
last_length before (line ∷ lines) = last_length (length line) lines

abbrev pub laid_as : ℕ → List (List ℕ) → Laid
laid_as before lines = record { text = behind_feeds lines; column = last_length before lines }

-- these tokens, laid
abbrev pub laid : List (List ℕ) → Laid
laid tokens = laid_as 79 (lines_of tokens)
