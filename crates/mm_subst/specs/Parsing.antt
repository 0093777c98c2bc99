-- Strings that are typed.
use Rattle.std.specs.Prelude.{◌≡◌, ◌≤◌, ◌<◌, ◌+◌, ◌-◌, ◌*◌, ◌==◌, ◌&&◌, ℕ, Bool, not, nat_le, nat_lt, List, [], ◌∷◌, length, map, filter, fold, position, Option, None, Some, Result, Ok, Err, is_none, slice_index, if◌then◌else◌}
use Rattle.std.specs.List.{list_all, slice_split}
use Rattle.std.specs.Option.{option_map}
use Rattle.mm_tokens.specs.Bytes.{is_white}
use Rattle.mm_scope.specs.Contents.{active_symbol_at}
use Rattle.mm_subst.specs.Applied.{most_symbols}
use Rattle.mm_subst.specs.Statements.{symbol_of}
use Rattle.mm_subst.specs.declared.symbol.WSym.{WSym}
use Rattle.mm_subst.specs.declared.symbol.WSym.TheVariants.{Work}
use Rattle.mm_subst.specs.declared.fault.ParseFault.{ParseFault}
use Rattle.mm_subst.specs.declared.fault.ParseFault.TheVariants.{BadSymbol, Empty, TooLong, Memory}

-- the words of a text: what stands between white space
abbrev pub words : List ℕ → List (List ℕ)
words text = filter (λ w. not (length w == 0)) (slice_split is_white text)

abbrev pub is_digit : ℕ → Bool
is_digit b = nat_le 48 b && nat_le b 57

abbrev pub are_digits : List ℕ → Bool
are_digits ds = list_all is_digit ds

-- decimal digits, the first of which is there and is not 0
abbrev pub is_numeral : List ℕ → Bool
is_numeral ds = nat_lt 48 (slice_index ds 0) && are_digits ds

-- the number that digits write
abbrev pub number_of : List ℕ → ℕ
number_of ds = fold (λ n d. 10 * n + (d - 48)) 0 ds

abbrev pub number_below : ℕ → List ℕ → Option ℕ
number_below next ds = if nat_lt (number_of ds) next then Some (number_of ds) else None

-- `$` and a number below next: that work variable
abbrev pub work_of : ℕ → List ℕ → Option WSym
work_of next [] = None
work_of next (b ∷ ds) = if b == 36 && is_numeral ds then option_map Work (number_below next ds) else None

-- a symbol that is found, or else the work variable that the word names
abbrev pub or_work : ℕ → List ℕ → Option WSym → Option WSym
or_work next word (Some x) = Some x
or_work next word None = work_of next word

-- what a word means at a statement: the symbol that is active there, or a work variable
abbrev pub meaning : List ℕ → ℕ → ℕ → List ℕ → Option WSym
meaning bytes at next word = or_work next word (option_map (symbol_of bytes) (active_symbol_at bytes at word))

abbrev pub meanings : List ℕ → ℕ → ℕ → List ℕ → List (Option WSym)
meanings bytes at next text = map (meaning bytes at next) (words text)

-- the place of the first word without a meaning
abbrev pub first_bad : List (Option WSym) → Option ℕ
first_bad ms = position is_none ms

-- The string of the words, which all have a meaning, are some and are not too many; or the first word that has none, counted
-- from 1, or that there is no word, or that there are too many. Nothing is said out of memory.
abbrev pub IsParsed : Result (List WSym) ParseFault → List (Option WSym) → Type 0
IsParsed (Ok s) ms = (ms ≡ map Some s) × (0 < length ms) × (length ms ≤ most_symbols)
IsParsed (Err (BadSymbol k)) ms = (1 ≤ k) × (first_bad ms ≡ Some (k - 1))
IsParsed (Err Empty) ms = length ms ≡ 0
IsParsed (Err TooLong) ms = (first_bad ms ≡ None) × (most_symbols < length ms)
IsParsed (Err Memory) ms = Unit {0}

-- the same of words that may be none or too many
abbrev pub AreMeant : Result (List WSym) ParseFault → List (Option WSym) → Type 0
AreMeant (Ok s) ms = ms ≡ map Some s
AreMeant (Err (BadSymbol k)) ms = (1 ≤ k) × (first_bad ms ≡ Some (k - 1))
AreMeant (Err Empty) ms = ⊥
AreMeant (Err TooLong) ms = ⊥
AreMeant (Err Memory) ms = Unit {0}
