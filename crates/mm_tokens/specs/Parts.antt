-- What the pieces of a database are, in words of its bytes alone.
use Rattle.std.specs.Prelude.{◌≡◌, ◌≢◌, ℕ, ◌+◌, ◌-◌, ◌≤◌, ◌<◌, true, false, List, [], ◌∷◌, length, slice_index}
use Rattle.mm_tokens.specs.Bytes.{is_graphic}
use Rattle.mm_tokens.specs.declared.pieces.Piece.{Piece}
use Rattle.mm_tokens.specs.declared.pieces.Piece.TheVariants.{Token, Comment, Open}

-- no token byte stands from place i up to j
abbrev pub IsBlank : List ℕ → ℕ → ℕ → Type 0
IsBlank bytes i j = (k : ℕ) → i ≤ k → k < j → is_graphic (slice_index bytes k) ≡ false

-- a maximal run of token bytes; past the bytes' end stands none
pub record IsRun (bytes : List ℕ) (start end : ℕ) : Type 0 where
  pub some : start < end
  pub within : end ≤ length bytes
  pub graphic : (k : ℕ) → start ≤ k → k < end → is_graphic (slice_index bytes k) ≡ true
  pub before : start ≢ 0 → is_graphic (slice_index bytes (start - 1)) ≡ false
  pub after : is_graphic (slice_index bytes end) ≡ false

-- a run that is exactly `$` and the byte c stands at place p
pub record IsMark (bytes : List ℕ) (c p : ℕ) : Type 0 where
  pub run : IsRun bytes p (p + 2)
  pub dollar : slice_index bytes p ≡ 36
  pub second : slice_index bytes (p + 1) ≡ c

-- a run that is not `$(`
pub record IsToken (bytes : List ℕ) (start end : ℕ) : Type 0 where
  pub run : IsRun bytes start end
  pub opens_none : ¬ IsMark bytes 40 start

-- from a `$(` to the first `$)` after it
pub record IsComment (bytes : List ℕ) (start end : ℕ) : Type 0 where
  pub opens : IsMark bytes 40 start
  pub room : start + 4 ≤ end
  pub closes : IsMark bytes 41 (end - 2)
  pub first : (k : ℕ) → start < k → k < end - 2 → ¬ IsMark bytes 41 k

-- a `$(` with no `$)` after it
pub record IsOpen (bytes : List ℕ) (start : ℕ) : Type 0 where
  pub opens : IsMark bytes 40 start
  pub unended : (k : ℕ) → start < k → ¬ IsMark bytes 41 k

abbrev pub IsPiece : List ℕ → Piece → Type 0
IsPiece bytes (Token t) = IsToken bytes t.start t.end
IsPiece bytes (Comment s) = IsComment bytes s.start s.end
IsPiece bytes (Open p) = IsOpen bytes p

abbrev pub piece_start : Piece → ℕ
piece_start (Token t) = t.start
piece_start (Comment s) = s.start
piece_start (Open p) = p

-- a comment that is not ended goes on to the end
abbrev pub piece_end : List ℕ → Piece → ℕ
piece_end bytes (Token t) = t.end
piece_end bytes (Comment s) = s.end
piece_end bytes (Open p) = length bytes

-- These are the pieces from place p on: in order and apart, with no token byte before, between or after them.
abbrev pub AreParts : List ℕ → ℕ → List Piece → Type 0
AreParts bytes p [] = IsBlank bytes p (length bytes)
AreParts bytes p (piece ∷ later) =
    (p ≤ piece_start piece) × IsBlank bytes p (piece_start piece) × IsPiece bytes piece × AreParts bytes (piece_end bytes piece) later
