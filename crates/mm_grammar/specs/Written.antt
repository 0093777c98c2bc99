-- The statements of a database are its tokens.
use Rattle.std.specs.Prelude.{◌≡◌, ℕ, List, map, flat_map}
use Rattle.mm_tokens.specs.Pieces.{pieces_of, tokens_in}
use Rattle.mm_scope.specs.Contents.{events_of}
use Rattle.mm_grammar.specs.Phrases.{Phrase, tokens}
use Rattle.mm_grammar.specs.Readable.{IsReadable, past_of}

-- The file is one of such statements. Their tokens are those outside comments, in order, and what they say one after
-- another is what the database says.
pub record IsWritten (bytes : List ℕ) : Type 0 where
  pub phrases : List Phrase
  pub readable : IsReadable bytes phrases
  pub outside : map (λ n. n.token) (flat_map tokens phrases) ≡ tokens_in (pieces_of bytes)
  pub said : past_of bytes phrases ≡ events_of bytes
