-- Balanced strings.
use Rattle.std.specs.Prelude.{ℕ, ◌+◌, Bool, false, ◌&&◌, ◌==◌, List, [], ◌∷◌, take, length, Option, None, Some, nat_le, count_by, position}
use Rattle.std.specs.List.{list_all, range_with_len}
use Rattle.std.specs.Str.{bytes_eq}
use Rattle.mm_scope.specs.Contents.{symbols_of}
use Rattle.mm_subst.specs.declared.symbol.WSym.{WSym}
use Rattle.mm_subst.specs.declared.symbol.WSym.TheVariants.{Const, Var, Work}
use Rattle.mm_subst.specs.declared.brackets.Bracket.{Bracket}
use Rattle.mm_subst.specs.declared.brackets.Brackets.{Brackets}

-- the number of the symbol of a database with a text; none where no symbol has it
abbrev pub number_of : List ℕ → List ℕ → Option ℕ
number_of bytes text = position (bytes_eq text) (symbols_of bytes)

-- a pair of brackets, by the numbers of their symbols in a database
abbrev pub bracket_of : List ℕ → List ℕ → List ℕ → Bracket
bracket_of bytes opening closing = record { opening = number_of bytes opening; closing = number_of bytes closing }

-- `( )`, `{ }` and `[ ]`
abbrev pub brackets_of : List ℕ → Brackets
brackets_of bytes = record {
  round = bracket_of bytes (40 ∷ []) (41 ∷ []);
  curly = bracket_of bytes (123 ∷ []) (125 ∷ []);
  square = bracket_of bytes (91 ∷ []) (93 ∷ []);
}

-- whether a symbol of a string is the symbol of the database with a number; a work variable is none
abbrev pub has_number : Option ℕ → WSym → Bool
has_number (Some n) (Const m) = m == n
has_number (Some n) (Var m) = m == n
has_number (Some n) (Work m) = false
has_number None x = false

-- how many symbols of a string open, and how many close
abbrev pub openings : Bracket → List WSym → ℕ
openings b s = count_by (has_number b.opening) s

abbrev pub closings : Bracket → List WSym → ℕ
closings b s = count_by (has_number b.closing) s

-- no prefix of a string has more closing than opening symbols
unfoldable pub is_opened_first : Bracket → List WSym → Bool
is_opened_first b s = list_all (λ k. nat_le (closings b (take k s)) (openings b (take k s))) (range_with_len 0 (length s + 1))

-- and the whole has as many of each
abbrev pub is_balanced_by : Bracket → List WSym → Bool
is_balanced_by b s = is_opened_first b s && openings b s == closings b s

-- whether a string is balanced in each of the three pairs
abbrev pub are_balanced : Brackets → List WSym → Bool
are_balanced bs s = is_balanced_by bs.round s && is_balanced_by bs.curly s && is_balanced_by bs.square s

abbrev pub is_balanced : List ℕ → List WSym → Bool
is_balanced bytes s = are_balanced (brackets_of bytes) s
