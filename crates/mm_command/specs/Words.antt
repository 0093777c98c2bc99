-- The words of a command line.
use Rattle.std.specs.Prelude.{ℕ, zero, suc, Bool, not, ◌+◌, ◌==◌, ◌||◌, List, [], ◌∷◌, length, take, drop, Option, None, Some, unwrap_or, position, if◌then◌else◌}
use Rattle.mm_command.specs.declared.words.Word.{Word}
use Rattle.mm_command.specs.declared.words.Word.TheVariants as word

-- a word: its bytes without quotes, a sign, or a quote that isn't closed
pub data Piece : Type 0 where
  Plain : List ℕ → Piece
  Slash : Piece
  Equals : Piece
  Unclosed : Piece

-- what a `Word` is
abbrev pub piece_of : Word → Piece
piece_of (word.Plain bytes) = Plain bytes.now
piece_of word.Slash = Slash
piece_of word.Equals = Equals
piece_of word.Unclosed = Unclosed

abbrev pub is_blank : ℕ → Bool
is_blank b = b == 32 || b == 9

abbrev pub is_quote : ℕ → Bool
is_quote b = b == 34 || b == 39

-- a blank, `/` or `=` ends a word without quotes
abbrev pub ends_word : ℕ → Bool
ends_word b = is_blank b || (b == 47 || b == 61)

-- how many bytes stand before the first one that passes the test
abbrev pub count_before : (ℕ → Bool) → List ℕ → ℕ
count_before test bytes = unwrap_or (position test bytes) (length bytes)

abbrev pub past_blanks : List ℕ → List ℕ
past_blanks line = drop (count_before (λ b. not (is_blank b)) line) line

-- the first word, and the bytes behind it
pub record Cut : Type 0 where
  pub piece : Piece
  pub rest : List ℕ

-- a word in quotes, from behind its first quote on, by the place of its second
abbrev pub cut_at_quote : List ℕ → Option ℕ → Cut
cut_at_quote bytes None = record { piece = Unclosed; rest = [] }
cut_at_quote bytes (Some place) = record { piece = Plain (take place bytes); rest = drop (place + 1) bytes }

-- the first word of bytes that begin with no blank
abbrev pub cut : List ℕ → Option Cut
cut [] = None
cut (b ∷ bytes) =
    if b == 47 then Some (record { piece = Slash; rest = bytes })
    else if b == 61 then Some (record { piece = Equals; rest = bytes })
    else if is_quote b then Some (cut_at_quote bytes (position (λ c. c == b) bytes))
    else (
    let place = count_before ends_word bytes in
    Some (record { piece = Plain (b ∷ take place bytes); rest = drop place bytes }))

-- the word that was cut off, and the words of the rest
abbrev pub cut_and_more : (List ℕ → List Piece) → Option Cut → List Piece
cut_and_more more None = []
cut_and_more more (Some c) = c.piece ∷ more c.rest

-- the first n words
unfoldable pub first_pieces : ℕ → List ℕ → List Piece
first_pieces zero line = []
first_pieces (suc n) line = cut_and_more (first_pieces n) (cut (past_blanks line))

-- the words of a line: it has no more words than bytes
unfoldable pub pieces_of : List ℕ → List Piece
pieces_of line = first_pieces (length line) line
