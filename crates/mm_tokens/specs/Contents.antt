-- What a token list shows.
use Rattle.std.specs.Prelude.{List}
use Rattle.mm_tokens.specs.declared.pieces.Token.{Token}
use Rattle.mm_tokens.specs.declared.pieces.Span.{Span}

-- the tokens outside comments, and the comments, each in order
pub record Contents : Type 0 where
  pub tokens : List Token
  pub comments : List Span
