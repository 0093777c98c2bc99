-- What a scanner shows.
use Rattle.std.specs.Prelude.{ℕ, List}
use Rattle.mm_tokens.specs.declared.pieces.Piece.{Piece}

-- the bytes of the whole database, and the pieces that are left
pub record Scan : Type 0 where
  pub bytes : List ℕ
  pub left : List Piece
