-- The lines of an input.
use Rattle.std.specs.Prelude.{◌&&◌, ◌==◌, ℕ, Bool, false, List, [], ◌∷◌, if◌then◌else◌, map, take}
use Rattle.mm_lines.specs.Limits.{most_kept}

abbrev pub starts_with_lf : List ℕ → Bool
starts_with_lf [] = false
starts_with_lf (b ∷ bytes) = b == 10

-- the lines with this byte in front of the first of them
abbrev pub glue : ℕ → List (List ℕ) → List (List ℕ)
glue b [] = (b ∷ []) ∷ []
glue b (line ∷ lines) = (b ∷ line) ∷ lines

-- The lines of a whole input. Each ends with LF, and one CR directly before that is no part of it.
-- What follows the last LF is a line too, unless it is empty.
unfoldable pub lines_of : List ℕ → List (List ℕ)
lines_of [] = []
lines_of (b ∷ bytes) =
    if b == 10 then [] ∷ lines_of bytes
    else if b == 13 && starts_with_lf bytes then lines_of bytes
    else glue b (lines_of bytes)

-- what is kept of a line: of one of more than 65,536 bytes so many that it is known to be too long
abbrev pub kept : List ℕ → List ℕ
kept line = take most_kept line

abbrev pub kept_lines : List (List ℕ) → List (List ℕ)
kept_lines lines = map (λ line. kept line) lines
