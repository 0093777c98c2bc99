-- Words that stand in the text of a proof, as labels do.
use Rattle.std.specs.Prelude.{◌≡◌, ℕ, ◌<◌, Bool, true, not, ◌&&◌, ◌==◌, List, length, All, slice_range}
use Rattle.mm_tokens.specs.Bytes.{is_graphic}
use Rattle.mm_tokens.specs.declared.pieces.Token.{Token}

-- a byte that may stand in a token, other than `$`
abbrev pub is_word_byte : ℕ → Bool
is_word_byte b = is_graphic b && not (b == 36)

-- some such bytes
pub record IsWord (text : List ℕ) : Type 0 where
  pub some : 0 < length text
  pub bytes : All (λ b. is_word_byte b ≡ true) text

-- the bytes of a token
abbrev pub text_at : List ℕ → Token → List ℕ
text_at bytes token = slice_range bytes token.start token.end
