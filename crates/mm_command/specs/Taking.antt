-- What the functions that take words off a line promise.
use Rattle.std.specs.Prelude.{◌≡◌, ℕ, ◌+◌, ◌<◌, ◌≤◌, ◌^◌, List, [], ◌∷◌, length, map, Option, None, Some, Result, Ok, Err, if◌then◌else◌, slice_get}
use Rattle.mm_command.specs.declared.fault.LineFault.{LineFault}
use Rattle.mm_command.specs.declared.words.Words.{Words}
use Rattle.mm_command.specs.declared.command.Command.{Command}
use Rattle.mm_command.specs.Words.{Piece, Slash, pieces_of}
use Rattle.mm_command.specs.Grammar.{Value, Qualifier, Row, Between, fault, take_one, keyword_at, is_excluded, stage_behind, value_wanted, with_flag, given_of, row_said, rows_said}
use Rattle.mm_command.specs.Spelled.{spelled}

-- the numbers of the words fit
abbrev pub HasRoom : Words → Type 0
HasRoom words = words.number + length words.rest.now < 2 ^ 32

-- the outcome is the definition's
abbrev pub Gives : {A B : Type 0} → (B → A) → Result B LineFault → Result A LineFault → Type 0
Gives value (Ok b) defined = defined ≡ Ok (value b)
Gives value (Err e) defined = defined ≡ Err e

-- the words are read by this row, behind its keywords
abbrev pub GivesRow : Row → Words → Result Command LineFault → Type 0
GivesRow row words result = Gives spelled result (row_said row row.places [] words.number (pieces_of words.rest.now))

-- the words are read by these rows
abbrev pub GivesRows : List Row → Words → Result Command LineFault → Type 0
GivesRows rows words result = Gives spelled result (rows_said rows words.number (pieces_of words.rest.now))

-- the qualifiers are read up to the end, where these are given already
abbrev pub GivesGiven : {B : Type 0} → (B → List (Option Value)) → List Qualifier → List (Option Value) → Words → Result B LineFault → Type 0
GivesGiven values qs given words result = Gives values result (given_of qs Between given words.number (pieces_of words.rest.now))

-- one word is taken, as its judge says, and the words behind it are answered
abbrev pub Takes : {A B : Type 0} → (B → A) → (ℕ → Piece → Result A LineFault) → Words → Result (B × Words) LineFault → Type 0
Takes value judge before (Ok t) =
    (take_one judge before.number (pieces_of before.rest.now) ≡ Ok (record { value = value t.0; rest = pieces_of t.1.rest.now }))
    × (t.1.number ≡ before.number + 1)
    × (t.1.number + length t.1.rest.now ≤ before.number + length before.rest.now)
Takes value judge before (Err e) = take_one judge before.number (pieces_of before.rest.now) ≡ Err e

-- what stands before the next qualifier: the end, or `/` and a keyword
abbrev pub TakesQualifier : List (List ℕ) → Words → Result (Option (ℕ × Words)) LineFault → Type 0
TakesQualifier keywords before (Ok None) = pieces_of before.rest.now ≡ []
TakesQualifier keywords before (Ok (Some t)) =
    (rest : List Piece) × (pieces_of before.rest.now ≡ Slash ∷ rest)
    × (take_one (keyword_at keywords) (before.number + 1) rest ≡ Ok (record { value = t.0; rest = pieces_of t.1.rest.now }))
    × (t.1.number ≡ before.number + 2)
    × (t.1.number + length t.1.rest.now ≤ before.number + length before.rest.now)
TakesQualifier keywords before (Err e) =
    (q : Qualifier) (qs : List Qualifier) (given : List (Option Value)) → map (λ p. p.keyword) (q ∷ qs) ≡ keywords
    → given_of (q ∷ qs) Between given before.number (pieces_of before.rest.now) ≡ Err e

-- the reading behind the keyword of qualifier i, which is word n, from word m on
abbrev pub given_behind : List Qualifier → List (Option Value) → ℕ → ℕ → ℕ → List Piece → Result (List (Option Value)) LineFault
given_behind qs given i n m pieces =
    if is_excluded (slice_get qs i) qs given then fault 3 n
    else given_of qs (stage_behind i (value_wanted (slice_get qs i))) (with_flag given i (value_wanted (slice_get qs i))) m pieces

-- qualifier i, whose keyword is word n, is added to those given, and the words behind it are answered
abbrev pub Adds : {B : Type 0} → (B → List (Option Value)) → List Qualifier → List (Option Value) → ℕ → ℕ → Words → Result (B × Words) LineFault → Type 0
Adds values qs given i n before (Ok t) =
    (given_behind qs given i n before.number (pieces_of before.rest.now) ≡ given_of qs Between (values t.0) t.1.number (pieces_of t.1.rest.now))
    × (length t.1.rest.now ≤ length before.rest.now)
    × (t.1.number + length t.1.rest.now ≤ before.number + length before.rest.now)
Adds values qs given i n before (Err e) = given_behind qs given i n before.number (pieces_of before.rest.now) ≡ Err e
