-- Where a line spells WRITE SOURCE, its file has a name.
use Rattle.std.proofs.Common.{◌≡◌, ◌+◌, ℕ, Bool, true, false, List, [], ◌∷◌, ◌++◌, Option, None, Some, Result, Ok, Err, refl, sym, ap, subst, ◌&&◌, if◌then◌else◌, slice_get}
use Rattle.std.specs.Str.{bytes_eq}
use Rattle.mm_base.specs.Name.{is_name_lem}
use Rattle.mm_command.specs.declared.fault.LineFault.{LineFault}
use Rattle.mm_command.specs.declared.command.Command.{Command}
use Rattle.mm_command.specs.declared.command.Command.TheVariants as command
use Rattle.mm_command.specs.Names.{Name, Nothing, WriteSource}
use Rattle.mm_command.specs.Grammar.{Place, File, Value, Bytes, Row, Said, Taken, fault, and_then, value_at, take_one, given_of, no_given, Between, row_said, rows_said, rows_behind, add_row, next_keywords, keyword_at, if_no_keyword, chosen}
use Rattle.mm_command.specs.Meanings.{meaning_of}
use Rattle.mm_command.specs.Spelled.{spelled}
use Rattle.mm_command.specs.Table.{table, is_silent, line_said}
use Rattle.mm_command.specs.Words.{Piece, Plain, past_blanks, pieces_of}
use Rattle.mm_database_commands.specs.Commands.{HasName}

-- the row of WRITE SOURCE has one place, for a file
abbrev fits_by : Name → List Place → Bool
fits_by WriteSource (File ∷ []) = true
fits_by WriteSource places = false
fits_by name places = true

abbrev Fit : List Row → Type 0
Fit [] = Unit {0}
Fit (row ∷ rows) = (fits_by row.name row.places ≡ true) × Fit rows

-- what WRITE SOURCE says is the name of a file
abbrev IsFile : Value → Type 0
IsFile (Bytes word) = is_name_lem word ≡ true
IsFile value = Unit {0}

abbrev AreFiles : List Value → Type 0
AreFiles [] = Unit {0}
AreFiles (v ∷ vs) = IsFile v × AreFiles vs

abbrev NamesFile : Name → List Value → Type 0
NamesFile WriteSource values = AreFiles values
NamesFile name values = Unit {0}

-- where it is said
abbrev Named : Result Said LineFault → Type 0
Named (Ok said) = NamesFile said.name said.values
Named (Err e) = Unit {0}

-- an answer's value
from_ok : {A : Type 0} → A → Result A LineFault → A
from_ok d (Ok a) = a
from_ok d (Err e) = d

ok_is : {A : Type 0} (a b : A) → ◌≡◌ {A = Result A LineFault} (Ok a) (Ok b) → a ≡ b
unfolding from_ok
ok_is a b e = ap (from_ok a) e

bytes_named : (word : List ℕ) (n : ℕ) (b : Bool) → is_name_lem word ≡ b → (v : Value) → (if b then Ok (Bytes word) else fault 3 n) ≡ Ok v → IsFile v
bytes_named word n true is v e = subst IsFile (ok_is (Bytes word) v e) is
bytes_named word n false is v e = cc

file_named : (n : ℕ) (piece : Piece) (v : Value) → value_at File n piece ≡ Ok v → IsFile v
unfolding value_at
file_named n (Plain word) v e = bytes_named word n (is_name_lem word) refl v e
file_named n piece v e = cc

taken_by : (rest : List Piece) (o : Result Value LineFault) → ((v : Value) → o ≡ Ok v → IsFile v) → (t : Taken Value) → and_then o (λ v. Ok (record { value = v; rest = rest })) ≡ Ok t → IsFile t.value
taken_by rest (Ok v) h t e = subst (λ (x : Taken Value). IsFile x.value) (ok_is (record { value = v; rest = rest }) t e) (h v refl)
taken_by rest (Err f) h t e = cc

taken_named : (n : ℕ) (pieces : List Piece) (t : Taken Value) → take_one (value_at File) n pieces ≡ Ok t → IsFile t.value
unfolding take_one
taken_named n [] t e = cc
taken_named n (piece ∷ pieces) t e = taken_by pieces (value_at File n piece) (file_named n piece) t e

-- what holds behind a word
then_all : {A : Type 0} (P : Result Said LineFault → Type 0) (o : Result A LineFault) (f : A → Result Said LineFault) → ((e : LineFault) → P (Err e)) → ((a : A) → o ≡ Ok a → P (f a)) → P (and_then o f)
then_all P (Ok a) f e h = h a refl
then_all P (Err x) f e h = e x

-- a row says its own command
SaidBy : Name → Result Said LineFault → Type 0
SaidBy name (Ok said) = said.name ≡ name
SaidBy name (Err e) = Unit {0}

said_by : (row : Row) (places : List Place) (values : List Value) (n : ℕ) (pieces : List Piece) → SaidBy row.name (row_said row places values n pieces)
unfolding SaidBy
said_by row [] values n pieces =
    then_all (SaidBy row.name) (given_of row.qualifiers Between (no_given row.qualifiers) n pieces) (λ given. Ok (record { name = row.name; values = values; given = given })) (λ e. tt) (λ given is. refl)
said_by row (place ∷ places) values n pieces =
    then_all (SaidBy row.name) (take_one (value_at place) n pieces) (λ t. row_said row places (values ++ t.value ∷ []) (n + 1) t.rest) (λ e. tt) (λ t is. said_by row places (values ++ t.value ∷ []) (n + 1) t.rest)

-- what a row with one place, for a file, says
SaysFile : Result Said LineFault → Type 0
SaysFile (Ok said) = AreFiles said.values
SaysFile (Err e) = Unit {0}

says_file : (row : Row) (n : ℕ) (pieces : List Piece) → SaysFile (row_said row (File ∷ []) [] n pieces)
unfolding SaysFile
says_file row n pieces =
    then_all SaysFile (take_one (value_at File) n pieces) (λ t. row_said row [] (t.value ∷ []) (n + 1) t.rest) (λ e. tt) (λ t is.
    then_all SaysFile (given_of row.qualifiers Between (no_given row.qualifiers) (n + 1) t.rest) (λ given. Ok (record { name = row.name; values = t.value ∷ []; given = given })) (λ e. tt) (λ given _. (taken_named n pieces t is, tt)))

SaysAs : Name → Result Said LineFault → Type 0
SaysAs name (Ok said) = NamesFile name said.values
SaysAs name (Err e) = Unit {0}

as_file : (r : Result Said LineFault) → SaysFile r → SaysAs WriteSource r
unfolding SaysFile SaysAs
as_file (Ok said) h = h
as_file (Err e) h = tt

as_any : (name : Name) → ((values : List Value) → NamesFile name values) → (r : Result Said LineFault) → SaysAs name r
unfolding SaysAs
as_any name h (Ok said) = h said.values
as_any name h (Err e) = tt

says_as : (row : Row) (name : Name) (places : List Place) → fits_by name places ≡ true → (n : ℕ) (pieces : List Piece) → SaysAs name (row_said row places [] n pieces)
says_as row WriteSource (File ∷ []) e n pieces = as_file (row_said row (File ∷ []) [] n pieces) (says_file row n pieces)
says_as row WriteSource places e n pieces = cc
says_as row name places e n pieces = as_any name (λ values. tt) (row_said row places [] n pieces)

named_from : (name : Name) (r : Result Said LineFault) → SaidBy name r → SaysAs name r → Named r
unfolding SaidBy SaysAs
named_from name (Ok said) s h = subst (λ (m : Name). NamesFile m said.values) (sym s) h
named_from name (Err e) s h = tt

row_named : (row : Row) (n : ℕ) (pieces : List Piece) → fits_by row.name row.places ≡ true → Named (row_said row row.places [] n pieces)
row_named row n pieces fit = named_from row.name (row_said row row.places [] n pieces) (said_by row row.places [] n pieces) (says_as row row.name row.places fit n pieces)

-- keywords leave rows as they are
fit_if : (b : Bool) (row : Row) (ks : List (List ℕ)) (others : List Row) → fits_by row.name row.places ≡ true → Fit others → Fit (if b then record row { keywords = ks } ∷ others else others)
fit_if true row ks others f h = (f, h)
fit_if false row ks others f h = h

fit_added : (keyword : Option (List ℕ)) (row : Row) (ks : List (List ℕ)) (others : List Row) → fits_by row.name row.places ≡ true → Fit others → Fit (add_row keyword row ks others)
fit_added None row ks others f h = h
fit_added (Some keyword) row [] others f h = h
fit_added (Some keyword) row (k ∷ ks) others f h = fit_if (bytes_eq k keyword) row ks others f h

fit_behind : (keyword : Option (List ℕ)) (rows : List Row) → Fit rows → Fit (rows_behind keyword rows)
fit_behind keyword [] h = tt
fit_behind keyword (row ∷ rows) h = fit_added keyword row row.keywords (rows_behind keyword rows) h.0 (fit_behind keyword rows h.1)

named_if : (ks : List (List ℕ)) (own other : Result Said LineFault) → Named own → Named other → Named (if_no_keyword ks own other)
named_if [] own other h o = h
named_if (k ∷ ks) own other h o = o

named_chosen : (rows : List Row) (n : ℕ) (pieces : List Piece) (other : Result Said LineFault) → Fit rows → Named other → Named (chosen rows n pieces other)
named_chosen [] n pieces other h o = o
named_chosen (row ∷ rows) n pieces other h o = named_if row.keywords (row_said row row.places [] n pieces) other (row_named row n pieces h.0) o

rows_named : (rows : List Row) (n : ℕ) (pieces : List Piece) → Fit rows → Named (rows_said rows n pieces)
unfolding rows_said
rows_named rows n [] h = named_chosen rows n [] (fault 3 n) h tt
rows_named rows n (piece ∷ pieces) h =
    named_chosen rows n (piece ∷ pieces) (and_then (keyword_at (next_keywords rows) n piece) (λ i. rows_said (rows_behind (slice_get (next_keywords rows) i) rows) (n + 1) pieces)) h
    (then_all Named (keyword_at (next_keywords rows) n piece) (λ i. rows_said (rows_behind (slice_get (next_keywords rows) i) rows) (n + 1) pieces) (λ e. tt)
    (λ i is. rows_named (rows_behind (slice_get (next_keywords rows) i) rows) (n + 1) pieces (fit_behind (slice_get (next_keywords rows) i) rows h)))

all_fit : List Row → Bool
all_fit [] = true
all_fit (row ∷ rows) = fits_by row.name row.places && all_fit rows

fit_both : (b : Bool) (row : Row) (rows : List Row) → fits_by row.name row.places ≡ b → (b && all_fit rows) ≡ true → (all_fit rows ≡ true → Fit rows) → Fit (row ∷ rows)
fit_both true row rows e h f = (e, f h)
fit_both false row rows e h f = cc

fit_rows : (rows : List Row) → all_fit rows ≡ true → Fit rows
unfolding all_fit
fit_rows [] h = tt
fit_rows (row ∷ rows) h = fit_both (fits_by row.name row.places) row rows refl h (fit_rows rows)

fit_table : Fit table
unfolding table all_fit
fit_table =
    fit_rows table refl

silent_named : (b : Bool) (r : Result Said LineFault) → Named r → Named (if b then Ok (record { name = Nothing; values = []; given = [] }) else r)
silent_named true r h = tt
silent_named false r h = h

line_named : (line : List ℕ) → Named (line_said line)
unfolding line_said
line_named line = silent_named (is_silent (past_blanks line)) (rows_said table 1 (pieces_of line)) (rows_named table 1 (pieces_of line) fit_table)

command_named : (c : Command) → Named (Ok (spelled c)) → HasName (meaning_of c)
command_named (command.WriteSource file) h = h.0
command_named _ h = tt

-- a line that spells WRITE SOURCE has a name
pub has_name : (line : List ℕ) (c : Command) → line_said line ≡ Ok (spelled c) → HasName (meaning_of c)
has_name line c e = command_named c (subst Named e (line_named line))
