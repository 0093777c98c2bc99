-- The texts of LET.
use Rattle.std.specs.Prelude.{◌≡◌, ℕ, ◌+◌, ◌==◌, Bool, nat_lt, List, [], ◌∷◌, length, filter_map, Option, Result, Ok, Err}
use Rattle.mm_plain.specs.Shape.{Proof}
use Rattle.mm_subst.specs.Applied.{most_symbols}
use Rattle.mm_subst.specs.Parsing.{first_bad, meanings, words}
use Rattle.mm_subst.specs.declared.symbol.WSym.{WSym}
use Rattle.mm_shell.specs.Answers.{none_of, unless}
use Rattle.mm_shell.specs.declared.refusal.Refusal.{Refusal}
use Rattle.mm_shell.specs.declared.refusal.Refusal.TheVariants.{BadSymbol, OutOfMemory, TooLong}

abbrev pub is_empty : List ℕ → Bool
is_empty text = length (words text) == 0

-- the symbols of the words, where each has a meaning and they are not too many
abbrev pub symbols_of : List (Option WSym) → Result (List WSym) Refusal
symbols_of ms =
    none_of (first_bad ms) (λ i. BadSymbol (i + 1))
    (unless ((nat_lt most_symbols (length ms), TooLong) ∷ [])
    (Ok (filter_map (λ m. m) ms)))

-- the string of a text, by the symbols that are active at the theorem and the work variables of its proof
unfoldable pub value_of : List ℕ → ℕ → Proof → List ℕ → Result (List WSym) Refusal
value_of bytes theorem p text = symbols_of (meanings bytes theorem p.next text)

-- a result is this value, or this refusal; memory may run out
abbrev pub GivesValue : Result (List WSym) Refusal → Result (List WSym) Refusal → Type 0
GivesValue meaning (Err OutOfMemory) = Unit {0}
GivesValue meaning result = meaning ≡ result
