-- Pieces of lines.
use Rattle.std.specs.Prelude.{◌≡◌, ◌==◌, ℕ, Bool, true, false, List, [], ◌∷◌, ◌++◌, take, if◌then◌else◌}
use Rattle.std.specs.List.{list_any}
use Rattle.mm_lines.specs.Limits.{most_held}

abbrev pub is_lf : ℕ → Bool
is_lf b = b == 10

-- bytes without an LF
abbrev pub IsFree : List ℕ → Type 0
IsFree bytes = list_any is_lf bytes ≡ false

-- without one CR at the end
abbrev pub without_cr : List ℕ → List ℕ
without_cr [] = []
without_cr (b ∷ []) = if b == 13 then [] else b ∷ []
without_cr (b ∷ c ∷ bytes) = b ∷ without_cr (c ∷ bytes)

-- the line of the bytes that stand before an LF, or before the end of the input
abbrev pub line_of : Bool → List ℕ → List ℕ
line_of true raw = without_cr raw
line_of false raw = raw

-- what is held of a line that has not ended: so many bytes that a CR at its end can still be taken off
abbrev pub held : List ℕ → List ℕ
held raw = take most_held raw

-- the bytes are a piece without an LF, an LF, and the rest
pub record Splits (bytes piece rest : List ℕ) : Type 0 where
  pub free : IsFree piece
  pub whole : bytes ≡ piece ++ 10 ∷ rest

-- The bytes up to the first LF were moved behind the line that was begun, or all where there is none.
abbrev pub MovesTo : List ℕ → List ℕ → Bool → List ℕ → List ℕ → Type 0
MovesTo bytes begun true rest begun' = (piece : List ℕ) × Splits bytes piece rest × (begun' ≡ held (begun ++ piece))
MovesTo bytes begun false rest begun' = IsFree bytes × (rest ≡ []) × (begun' ≡ held (begun ++ bytes))
