-- What a database says, with each place in it moved.
use Rattle.std.specs.Prelude.{ℕ}
use Rattle.std.specs.Option.{option_map}
use Rattle.mm_tokens.specs.declared.pieces.Token.{Token as Run}
use Rattle.mm_tokens.specs.declared.pieces.Span.{Span}
use Rattle.mm_tokens.specs.declared.pieces.Piece.{Piece}
use Rattle.mm_tokens.specs.declared.pieces.Piece.TheVariants.{Token, Comment, Open}
use Rattle.mm_scope.specs.Events.{Event, constant, variable, float, essential, asserted, theorem, distinct, opened, closed}
use Rattle.mm_stated.specs.Stated.{Stated}

-- a comment whose ends are moved
abbrev pub move_span : (ℕ → ℕ) → Span → Span
move_span f s = record { start = f s.start; end = f s.end }

abbrev pub move_run : (ℕ → ℕ) → Run → Run
move_run f r = record { start = f r.start; end = f r.end }

abbrev pub move_piece : (ℕ → ℕ) → Piece → Piece
move_piece f (Token r) = Token (move_run f r)
move_piece f (Comment s) = Comment (move_span f s)
move_piece f (Open p) = Open (f p)

abbrev pub move_event : (ℕ → ℕ) → Event → Event
move_event f (constant t n) = constant t n
move_event f (variable t n) = variable t n
move_event f (float l ss d) = float l ss (option_map (move_span f) d)
move_event f (essential l ss d) = essential l ss (option_map (move_span f) d)
move_event f (asserted l ss d) = asserted l ss (option_map (move_span f) d)
move_event f (theorem l ss from to d) = theorem l ss (f from) (f to) (option_map (move_span f) d)
move_event f (distinct ss) = distinct ss
move_event f (opened p) = opened (f p)
move_event f closed = closed

-- a statement whose proof and description are moved
abbrev pub move_stated : (ℕ → ℕ) → Stated → Stated
move_stated f s = record s { from = f s.from; to = f s.to; described = option_map (move_span f) s.described }
