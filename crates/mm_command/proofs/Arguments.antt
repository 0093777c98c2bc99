-- Steps of the reading of arguments.
use Rattle.std.proofs.Common.{◌≡◌, ℕ, ◌+◌, List, [], ◌∷◌, ◌++◌, Option, Ok, Err, sym, ◌∙◌, ap}
use Rattle.mm_command.specs.declared.fault.LineFault.{LineFault}
use Rattle.mm_command.specs.Words.{Piece}
use Rattle.mm_command.specs.Grammar.{Place, Value, Row, Said, Taken, Between, take_one, value_at, and_then, given_of, no_given, row_said}

-- an argument was taken
pub row_on : (row : Row) (place : Place) (places : List Place) (values : List Value) (n m : ℕ) (pieces : List Piece) (t : Taken Value)
    → take_one (value_at place) n pieces ≡ Ok t → m ≡ n + 1
    → row_said row (place ∷ places) values n pieces ≡ row_said row places (values ++ t.value ∷ []) m t.rest
row_on row place places values n m pieces t h p =
    ap (λ o. and_then o (λ s. row_said row places (values ++ s.value ∷ []) (n + 1) s.rest)) h
    ∙ ap (λ k. row_said row places (values ++ t.value ∷ []) k t.rest) (sym p)

-- the qualifiers were read
pub row_end : (row : Row) (values : List Value) (given : List (Option Value)) (n : ℕ) (pieces : List Piece)
    → given_of row.qualifiers Between (no_given row.qualifiers) n pieces ≡ Ok given
    → row_said row [] values n pieces ≡ Ok (record { name = row.name; values = values; given = given })
row_end row values given n pieces h = ap (λ o. and_then o (λ g. Ok (record { name = row.name; values = values; given = g }))) h

pub row_fault : (row : Row) (values : List Value) (n : ℕ) (pieces : List Piece) (f : LineFault)
    → given_of row.qualifiers Between (no_given row.qualifiers) n pieces ≡ Err f → row_said row [] values n pieces ≡ Err f
row_fault row values n pieces f h = ap (λ o. and_then {B = Said} o (λ g. Ok (record { name = row.name; values = values; given = g }))) h
