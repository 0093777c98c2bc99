-- The letters that are left.
use Rattle.std.specs.Prelude.{◌≡◌, ◌≤◌, ◌<◌, ℕ, ◌+◌, ◌^◌, List, ◌++◌, length, slice_range}
use Rattle.mm_tokens.specs.Pieces.{tokens_in}
use Rattle.mm_tokens.specs.Scan.{Scan}
use Rattle.mm_proof.specs.Reading.{Placed, placed, letters_in}

-- the letters of the token in hand from one place to another, then those of the tokens that a scan has left
abbrev pub letters_left : ℕ → List ℕ → ℕ → ℕ → Scan → List Placed
letters_left from proof at end scan = placed (from + at) (slice_range proof at end) ++ letters_in from proof (tokens_in scan.left)

-- the token in hand stands in the proof
pub record IsHeld (from : ℕ) (proof : List ℕ) (at end : ℕ) (scan : Scan) : Type 0 where
  pub ordered : at ≤ end
  pub within : end ≤ length proof
  pub whole : scan.bytes ≡ proof
  pub fits : from + length proof < 2 ^ 64
