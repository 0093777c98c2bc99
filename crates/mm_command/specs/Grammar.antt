-- How a line is read by a table of commands: words are judged from left to right, and the first that doesn't fit decides.
use Rattle.std.specs.Prelude.{ℕ, zero, suc, ◌+◌, ◌-◌, ◌*◌, ◌==◌, ◌&&◌, ◌||◌, Bool, false, not, nat_le, List, [], ◌∷◌, ◌++◌, length, map, Option, None, Some, is_some, Result, Ok, Err, if◌then◌else◌, slice_get, slice_set, codes}
use Rattle.std.specs.List.{list_any, list_all, fold}
use Rattle.std.specs.Str.{bytes_eq}
use Rattle.mm_base.specs.Name.{is_name_lem}
use Rattle.mm_command.specs.declared.fault.LineFault.{LineFault}
use Rattle.mm_command.specs.declared.keyword.Unfit.{Unfit}
use Rattle.mm_command.specs.declared.keyword.Unfit.TheVariants.{NoKeyword, Ambiguous}
use Rattle.mm_command.specs.Limits.{most_work}
use Rattle.mm_command.specs.Names.{Name}
use Rattle.mm_command.specs.Words.{Piece, Plain, Slash, Equals, Unclosed}
use Rattle.mm_command.specs.Keywords.{keyword_of}

-- what an argument's place takes: a label or a pattern, the name of a file, a text with the number of its word, `=`,
-- the `$n` of a work variable, a step, a step or ALL, ON or OFF, OFF where ON isn't built yet, a number in a range
pub data Place : Type 0 where
  Label : Place
  File : Place
  Text : Place
  EqualsSign : Place
  WorkVariable : Place
  Step : Place
  StepOrAll : Place
  OnOrOff : Place
  OffAlone : Place
  Number : ℕ → ℕ → Place

-- an argument, or what a qualifier is given with
pub data Value : Type 0 where
  Bytes : List ℕ → Value
  TextAt : List ℕ → ℕ → Value
  EqualsGiven : Value
  Numbered : ℕ → Value
  FirstStep : Value
  LastStep : Value
  AllSteps : Value
  On : Value
  Off : Value
  Given : Value

-- a qualifier: its keyword, and the value that stands behind it, if any; those of one group exclude each other
pub record Qualifier : Type 0 where
  pub keyword : List ℕ
  pub value : Option Place
  pub group : ℕ

-- a command of the table
pub record Row : Type 0 where
  pub name : Name
  pub keywords : List (List ℕ)
  pub places : List Place
  pub qualifiers : List Qualifier

-- what a line says: its command, the arguments, and for each qualifier of its row what it is given with
pub record Said : Type 0 where
  pub name : Name
  pub values : List Value
  pub given : List (Option Value)

-- refusal C1, C2 or C3 for the word of this number
abbrev pub fault : {A : Type 0} → ℕ → ℕ → Result A LineFault
fault number word = Err (record { number = number; word = word })

abbrev pub and_then : {A B : Type 0} → Result A LineFault → (A → Result B LineFault) → Result B LineFault
and_then (Ok a) f = f a
and_then (Err e) f = Err e

-- ## One word, whose number is n

abbrev pub keyword_or_fault : ℕ → Result ℕ Unfit → Result ℕ LineFault
keyword_or_fault n (Ok i) = Ok i
keyword_or_fault n (Err NoKeyword) = fault 1 n
keyword_or_fault n (Err Ambiguous) = fault 2 n

-- a keyword's place takes the number of the keyword
unfoldable pub keyword_at : List (List ℕ) → ℕ → Piece → Result ℕ LineFault
keyword_at keywords n (Plain word) = keyword_or_fault n (keyword_of keywords word)
keyword_at keywords n Unclosed = fault 3 n
keyword_at keywords n _ = fault 1 n

abbrev pub is_digit : ℕ → Bool
is_digit b = nat_le 48 b && nat_le b 57

-- 1 to 10 digits
abbrev pub is_number : List ℕ → Bool
is_number word = (nat_le 1 (length word) && nat_le (length word) 10) && list_all is_digit word

unfoldable pub number_of : List ℕ → ℕ
number_of word = fold (λ n d. 10 * n + (d - 48)) 0 word

abbrev pub begins_with : (ℕ → Bool) → List ℕ → Bool
begins_with test [] = false
begins_with test (b ∷ bytes) = test b

abbrev pub number_at : ℕ → ℕ → ℕ → List ℕ → Result Value LineFault
number_at low high n word =
    if is_number word && (nat_le low (number_of word) && nat_le (number_of word) high) then Ok (Numbered (number_of word)) else fault 3 n

-- `$` and a number from 1 to 4,000,000,000 without leading zeros
abbrev pub variable_at : ℕ → List ℕ → Result Value LineFault
variable_at n [] = fault 3 n
variable_at n (b ∷ digits) =
    if b == 36 && not (begins_with (λ d. d == 48) digits) then number_at 1 most_work n digits else fault 3 n

abbrev pub step_keywords : List (List ℕ)
step_keywords = codes "FIRST" ∷ codes "LAST" ∷ []

abbrev pub step_of : ℕ → Result Value LineFault
step_of zero = Ok FirstStep
step_of (suc zero) = Ok LastStep
step_of (suc (suc i)) = Ok AllSteps

-- a step's place is a keyword's place for a word that doesn't begin with a digit
abbrev pub step_at : List (List ℕ) → ℕ → Piece → Result Value LineFault
step_at keywords n (Plain word) =
    if begins_with is_digit word then (if is_number word then Ok (Numbered (number_of word)) else fault 3 n)
    else and_then (keyword_at keywords n (Plain word)) step_of
step_at keywords n piece = and_then (keyword_at keywords n piece) step_of

abbrev pub switch_keywords : List (List ℕ)
switch_keywords = codes "ON" ∷ codes "OFF" ∷ []

abbrev pub switch_of : ℕ → Result Value LineFault
switch_of zero = Ok On
switch_of (suc i) = Ok Off

abbrev pub off_alone : ℕ → ℕ → Result Value LineFault
off_alone n zero = fault 3 n
off_alone n (suc i) = Ok Off

unfoldable pub value_at : Place → ℕ → Piece → Result Value LineFault
value_at Label n (Plain word) = Ok (Bytes word)
value_at File n (Plain word) = if is_name_lem word then Ok (Bytes word) else fault 3 n
value_at Text n (Plain word) = Ok (TextAt word n)
value_at EqualsSign n Equals = Ok EqualsGiven
value_at WorkVariable n (Plain word) = variable_at n word
value_at (Number low high) n (Plain word) = number_at low high n word
value_at Step n piece = step_at step_keywords n piece
value_at StepOrAll n piece = step_at (step_keywords ++ codes "ALL" ∷ []) n piece
value_at OnOrOff n piece = and_then (keyword_at switch_keywords n piece) switch_of
value_at OffAlone n piece = and_then (keyword_at switch_keywords n piece) (off_alone n)
value_at place n piece = fault 3 n

-- ## The words from left to right, from word n on

-- a value, and the words behind it
pub record Taken (A : Type 0) : Type 0 where
  pub value : A
  pub rest : List Piece

-- the next word, judged; a missing one is C3
unfoldable pub take_one : {A : Type 0} → (ℕ → Piece → Result A LineFault) → ℕ → List Piece → Result (Taken A) LineFault
take_one judge n [] = fault 3 n
take_one judge n (piece ∷ pieces) = and_then (judge n piece) (λ v. Ok (record { value = v; rest = pieces }))

-- ## Qualifiers

-- where their reading stands: before a `/` or the end, behind a `/`, or at the value of qualifier i
pub data Stage : Type 0 where
  Between : Stage
  BehindSlash : Stage
  AtValue : ℕ → Place → Stage

abbrev pub is_of_group : Option Qualifier → Qualifier → Bool
is_of_group None q = false
is_of_group (Some p) q = p.group == q.group

-- whether the qualifier, or another of its group, is given already
abbrev pub is_excluded : Option Qualifier → List Qualifier → List (Option Value) → Bool
is_excluded p (q ∷ qs) (g ∷ given) = (is_of_group p q && is_some g) || is_excluded p qs given
is_excluded p _ _ = false

abbrev pub slash_at : List Qualifier → ℕ → Piece → Result Stage LineFault
slash_at (q ∷ qs) n Slash = Ok BehindSlash
slash_at _ n piece = fault 3 n

abbrev pub value_wanted : Option Qualifier → Option Place
value_wanted None = None
value_wanted (Some q) = q.value

abbrev pub stage_behind : ℕ → Option Place → Stage
stage_behind i None = Between
stage_behind i (Some place) = AtValue i place

-- a qualifier without a value is given by its keyword
abbrev pub with_flag : List (Option Value) → ℕ → Option Place → List (Option Value)
with_flag given i None = slice_set given i (Some Given)
with_flag given i (Some place) = given

unfoldable pub given_of : List Qualifier → Stage → List (Option Value) → ℕ → List Piece → Result (List (Option Value)) LineFault
given_of qs Between given n [] = Ok given
given_of qs _ given n [] = fault 3 n
given_of qs Between given n (piece ∷ pieces) = and_then (slash_at qs n piece) (λ stage. given_of qs stage given (n + 1) pieces)
given_of qs BehindSlash given n (piece ∷ pieces) = and_then (keyword_at (map (λ q. q.keyword) qs) n piece) (λ i.
    if is_excluded (slice_get qs i) qs given then fault 3 n
    else given_of qs (stage_behind i (value_wanted (slice_get qs i))) (with_flag given i (value_wanted (slice_get qs i))) (n + 1) pieces)
given_of qs (AtValue i place) given n (piece ∷ pieces) = and_then (value_at place n piece) (λ v.
    given_of qs Between (slice_set given i (Some v)) (n + 1) pieces)

abbrev pub no_given : List Qualifier → List (Option Value)
no_given qs = map (λ q. None) qs

-- ## Arguments, and the qualifiers behind them

abbrev pub row_said : Row → List Place → List Value → ℕ → List Piece → Result Said LineFault
row_said row [] values n pieces =
    and_then (given_of row.qualifiers Between (no_given row.qualifiers) n pieces) (λ given. Ok (record { name = row.name; values = values; given = given }))
row_said row (place ∷ places) values n pieces =
    and_then (take_one (value_at place) n pieces) (λ t. row_said row places (values ++ t.value ∷ []) (n + 1) t.rest)

-- ## Keywords, which choose among the rows

abbrev pub add_keyword : List (List ℕ) → List (List ℕ) → List (List ℕ)
add_keyword [] others = others
add_keyword (k ∷ ks) others = if list_any (bytes_eq k) others then others else k ∷ others

-- the keywords that the rows go on with, each once
abbrev pub next_keywords : List Row → List (List ℕ)
next_keywords [] = []
next_keywords (row ∷ rows) = add_keyword row.keywords (next_keywords rows)

abbrev pub add_row : Option (List ℕ) → Row → List (List ℕ) → List Row → List Row
add_row (Some keyword) row (k ∷ ks) others = if bytes_eq k keyword then record row { keywords = ks } ∷ others else others
add_row keyword row ks others = others

-- the rows that go on with this keyword, and what they have behind it
abbrev pub rows_behind : Option (List ℕ) → List Row → List Row
rows_behind keyword [] = []
rows_behind keyword (row ∷ rows) = add_row keyword row row.keywords (rows_behind keyword rows)

abbrev pub if_no_keyword : List (List ℕ) → Result Said LineFault → Result Said LineFault → Result Said LineFault
if_no_keyword [] own other = own
if_no_keyword (k ∷ ks) own other = other

-- a first row with no keyword left is the line's
abbrev pub chosen : List Row → ℕ → List Piece → Result Said LineFault → Result Said LineFault
chosen [] n pieces other = other
chosen (row ∷ rows) n pieces other = if_no_keyword row.keywords (row_said row row.places [] n pieces) other

unfoldable pub rows_said : List Row → ℕ → List Piece → Result Said LineFault
rows_said rows n [] = chosen rows n [] (fault 3 n)
rows_said rows n (piece ∷ pieces) = chosen rows n (piece ∷ pieces) (and_then (keyword_at (next_keywords rows) n piece) (λ i.
    rows_said (rows_behind (slice_get (next_keywords rows) i) rows) (n + 1) pieces))
