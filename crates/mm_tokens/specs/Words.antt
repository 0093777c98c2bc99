-- The kinds of tokens.
use Rattle.std.specs.Prelude.{ℕ, Bool, not, ◌&&◌, ◌||◌, ◌==◌, nat_le, List, length, slice_index, drop, if◌then◌else◌}
use Rattle.std.specs.List.{list_any}
use Rattle.mm_tokens.specs.declared.word.Word.{Word}
use Rattle.mm_tokens.specs.declared.word.Word.TheVariants as word

-- the keyword of `$` and the byte
unfoldable pub keyword_of : ℕ → Word
keyword_of b =
    if b == 99 then word.Constants
    else (if b == 118 then word.Variables
    else (if b == 102 then word.Float
    else (if b == 101 then word.Essential
    else (if b == 100 then word.Distinct
    else (if b == 97 then word.Axiom
    else (if b == 112 then word.Theorem
    else (if b == 61 then word.Proof
    else (if b == 46 then word.End
    else (if b == 123 then word.Open
    else (if b == 125 then word.Close
    else (if (b == 91 || b == 93) then word.Inclusion
    else word.Unknown)))))))))))

unfoldable pub word_of : List ℕ → Word
word_of t =
    if (length t == 0 || not (slice_index t 0 == 36)) then word.Text
    else (if length t == 2 then keyword_of (slice_index t 1) else word.Unknown)

-- letters, digits, `-`, `_` and `.`
abbrev pub is_label_byte : ℕ → Bool
is_label_byte b = (nat_le 97 b && nat_le b 122) || (nat_le 65 b && nat_le b 90) || (nat_le 48 b && nat_le b 57) || b == 45 || b == 95 || b == 46

unfoldable pub is_bad_label : List ℕ → Bool
is_bad_label t = list_any (λ b. not (is_label_byte b)) t

-- `$` stands after the first byte
unfoldable pub is_bad_symbol : List ℕ → Bool
is_bad_symbol t = list_any (λ b. b == 36) (drop 1 t)
