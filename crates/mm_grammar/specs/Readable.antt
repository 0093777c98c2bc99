-- Which files are read.
use Rattle.std.specs.Prelude.{◌≡◌, ◌≤◌, ℕ, List, [], None, All, length, position, flat_map, reverse}
use Rattle.mm_tokens.specs.Bytes.{is_bad}
use Rattle.mm_tokens.specs.Pieces.{pieces_of, open_in}
use Rattle.mm_scope.specs.Events.{Event, symbols, open_blocks}
use Rattle.mm_scope.specs.Judged.{most_bytes}
use Rattle.mm_grammar.specs.Phrases.{Phrase, noted_from, tokens, symbols_in, told, IsForm, IsSymbol}
use Rattle.mm_grammar.specs.Rules.{FollowsRules}

-- what statements say, the newest first
abbrev pub past_of : List ℕ → List Phrase → List Event
past_of bytes phrases = reverse (flat_map (told bytes) phrases)

-- The file is not too long, has no bad byte and leaves no comment open. Its tokens outside comments are those of these
-- statements, in order. Each has one of the forms, with the database's symbols by their numbers, and is as the language
-- asks, given those before it. All blocks are ended.
pub record IsReadable (bytes : List ℕ) (phrases : List Phrase) : Type 0 where
  pub short : length bytes ≤ most_bytes
  pub clean : position is_bad bytes ≡ None
  pub ended : open_in (pieces_of bytes) ≡ None
  pub whole : flat_map tokens phrases ≡ noted_from None (pieces_of bytes)
  pub formed : All (IsForm bytes) phrases
  pub named : All (λ p. All (IsSymbol bytes (symbols (past_of bytes phrases))) (symbols_in p)) phrases
  pub asked : FollowsRules (past_of bytes phrases)
  pub closed : open_blocks (past_of bytes phrases) ≡ []
