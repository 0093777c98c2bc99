-- The tokens and comments of a database, in order.
use Rattle.std.specs.Prelude.{ℕ, ◌≤◌, ◌<◌, List, [], ◌∷◌, Option, None, Some, if◌then◌else◌}
use Rattle.mm_tokens.specs.Runs.{runs, runs_after, is_mark}
use Rattle.mm_tokens.specs.declared.pieces.Token.{Token as Run}
use Rattle.mm_tokens.specs.declared.pieces.Span.{Span}
use Rattle.mm_tokens.specs.declared.pieces.Piece.{Piece}
use Rattle.mm_tokens.specs.declared.pieces.Piece.TheVariants.{Token, Comment, Open}

-- The pieces of the runs that are left. The option is where a comment began that has not ended yet.
-- A run that is exactly `$(` opens a comment, and the next that is exactly `$)` ends it.
unfoldable pub pieces_from : List ℕ → Option ℕ → List Run → List Piece
pieces_from bytes None [] = []
pieces_from bytes (Some p) [] = Open p ∷ []
pieces_from bytes None (r ∷ rs) =
    if is_mark bytes 40 r then pieces_from bytes (Some r.start) rs
    else Token r ∷ pieces_from bytes None rs
pieces_from bytes (Some p) (r ∷ rs) =
    if is_mark bytes 41 r then Comment (record { start = p; end = r.end }) ∷ pieces_from bytes None rs
    else pieces_from bytes (Some p) rs

-- the pieces from place p on, where no run and no comment goes on
abbrev pub pieces_after : List ℕ → ℕ → List Piece
pieces_after bytes p = pieces_from bytes None (runs_after bytes p)

-- all pieces
abbrev pub pieces_of : List ℕ → List Piece
pieces_of bytes = pieces_from bytes None (runs bytes)

-- the tokens among the pieces
abbrev pub tokens_in : List Piece → List Run
tokens_in [] = []
tokens_in (Token t ∷ ps) = t ∷ tokens_in ps
tokens_in (Comment s ∷ ps) = tokens_in ps
tokens_in (Open p ∷ ps) = tokens_in ps

-- the comments among the pieces
abbrev pub comments_in : List Piece → List Span
comments_in [] = []
comments_in (Token t ∷ ps) = comments_in ps
comments_in (Comment s ∷ ps) = s ∷ comments_in ps
comments_in (Open p ∷ ps) = comments_in ps

-- where the comment begins that is not ended
abbrev pub open_in : List Piece → Option ℕ
open_in [] = None
open_in (Token t ∷ ps) = open_in ps
open_in (Comment s ∷ ps) = open_in ps
open_in (Open p ∷ ps) = Some p

-- the piece is not empty, and stands among n bytes
abbrev pub PieceStandsIn : ℕ → Piece → Type 0
PieceStandsIn n (Token t) = (t.start < t.end) × (t.end ≤ n)
PieceStandsIn n (Comment s) = (s.start < s.end) × (s.end ≤ n)
PieceStandsIn n (Open p) = p < n
