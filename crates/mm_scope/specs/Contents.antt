-- What a database says, as functions of its bytes.
use Rattle.std.specs.Prelude.{◌≡◌, ◌≤◌, ◌<◌, ℕ, Bool, true, not, ◌&&◌, ◌||◌, ◌==◌, List, [], Option, None, Some, Result, Ok, Err, is_ok, length, position, slice_index_or, count_by, All, nat_le, nat_lt, ◌∷◌, if◌then◌else◌}
use Rattle.std.specs.List.{list_any}
use Rattle.std.specs.Str.{bytes_eq}
use Rattle.mm_tables.specs.Distinct.{pairs_among}
use Rattle.mm_tokens.specs.declared.pieces.Span.{Span}
use Rattle.mm_scope.specs.Databases.{database_of}
use Rattle.mm_scope.specs.Events.{Event, symbols, labels, statements, active_hypotheses, active_variables, active_distinct}
use Rattle.mm_scope.specs.Looks.{constants, look_back}
use Rattle.mm_stated.specs.Ordered.{ordered_variables}
use Rattle.mm_stated.specs.Typecodes.{is_typecode_among}
use Rattle.mm_stated.specs.Mandatory.{variables_of}
use Rattle.mm_stated.specs.Stated.{Stated, no_statement, is_hypothesis, is_same_kind}
use Rattle.mm_scope.specs.Steps.{Answers}
use Rattle.mm_stated.specs.declared.statement.Kind.{Kind}
use Rattle.mm_stated.specs.declared.statement.Kind.TheVariants as kind
use Rattle.mm_scope.specs.declared.fault.ReadFault.{ReadFault}

abbrev pub events_in : Result (List Event) ReadFault → List Event
events_in (Ok past) = past
events_in (Err e) = []

-- the events, the newest first; none where the database is not read
unfoldable pub events_of : List ℕ → List Event
events_of bytes = events_in (database_of bytes)

unfoldable pub is_read : List ℕ → Bool
is_read bytes = is_ok (database_of bytes)

-- the labels in order; the id of a labelled statement is its place, counted from 0
unfoldable pub labels_of : List ℕ → List (List ℕ)
labels_of bytes = labels (events_of bytes)

unfoldable pub statements_of : List ℕ → List Stated
statements_of bytes = statements (events_of bytes)

-- the symbols in order of first declaration; the number of a symbol is its place, counted from 0
unfoldable pub symbols_of : List ℕ → List (List ℕ)
symbols_of bytes = symbols (events_of bytes)

abbrev pub stated_at : List ℕ → ℕ → Stated
stated_at bytes id = slice_index_or (statements_of bytes) id no_statement

-- the events before the labelled statement with an id, out of a past that has it
unfoldable pub past_before : ℕ → List Event → List Event
past_before id [] = []
past_before id (e ∷ past) = if nat_le (length (labels (e ∷ past))) id then e ∷ past else past_before id past

-- the ids of the hypotheses that are active at a labelled statement, in order
unfoldable pub active_at : List ℕ → ℕ → List ℕ
active_at bytes id = active_hypotheses (past_before id (events_of bytes))

-- the variables that are active at a labelled statement, by number
unfoldable pub variables_at : List ℕ → ℕ → List ℕ
variables_at bytes id = active_variables (past_before id (events_of bytes))

-- the groups of variables that the active `$d` part at a labelled statement, in order
unfoldable pub distinct_at : List ℕ → ℕ → List (List ℕ)
distinct_at bytes id = active_distinct (past_before id (events_of bytes))

abbrev pub ordered_at : List ℕ → ℕ → List ℕ
ordered_at bytes id =
    ordered_variables (variables_of (statements_of bytes) (active_at bytes id)) (variables_at bytes id) (length (symbols_of bytes))

-- of an assertion the ids of its active hypotheses, in order; none of a hypothesis
abbrev pub active_of : List ℕ → ℕ → List ℕ
active_of bytes id = if is_hypothesis (stated_at bytes id).kind then [] else active_at bytes id

-- of an assertion the pairs of active variables that must differ, in order; none of a hypothesis
abbrev pub active_pairs_of : List ℕ → ℕ → List (ℕ × ℕ)
active_pairs_of bytes id =
    if is_hypothesis (stated_at bytes id).kind then []
    else pairs_among (distinct_at bytes id) (ordered_at bytes id)

-- whether a symbol is no constant
abbrev pub is_variable_of : List ℕ → ℕ → Bool
is_variable_of bytes s = not (list_any (λ n. s == n) (constants (events_of bytes)))

-- the number of a symbol that is active
abbrev pub symbol_by : Answers → Option ℕ
symbol_by a = if (a.constant || a.active) then Some a.number else None

-- the number of the symbol with a text that is active at a labelled statement
unfoldable pub active_symbol_at : List ℕ → ℕ → List ℕ → Option ℕ
active_symbol_at bytes id text = symbol_by (look_back (past_before id (events_of bytes)) text)

-- whether a number was a symbol's before a labelled statement, and is a constant or a variable active there
abbrev pub is_active_number : List ℕ → ℕ → ℕ → Bool → Bool
is_active_number bytes id n constant =
    nat_lt n (length (symbols (past_before id (events_of bytes)))) && (constant || list_any (λ m. n == m) (variables_at bytes id))

-- whether a symbol is the typecode of some `$f`
abbrev pub is_typecode_of : List ℕ → ℕ → Bool
is_typecode_of bytes s = is_typecode_among (statements_of bytes) s

abbrev pub find_label : List ℕ → List ℕ → Option ℕ
find_label bytes label = position (bytes_eq label) (labels_of bytes)

abbrev pub count_kind : Kind → List ℕ → ℕ
count_kind k bytes = count_by (λ s. is_same_kind k s.kind) (statements_of bytes)

-- the bytes between `$=` and `$.`; none of a statement that is no theorem
abbrev pub span_by : Kind → ℕ → ℕ → Option Span
span_by kind.Theorem from to = Some (record { start = from; end = to })
span_by _ from to = None

abbrev pub proof_span_of : Stated → Option Span
proof_span_of s = span_by s.kind s.from s.to

-- What holds of the statement with an id. Its mandatory hypotheses are earlier, and are hypotheses; it has a symbol,
-- and two where it is a `$f`; and its proof stands among the bytes.
pub record IsSound (bytes : List ℕ) (id : ℕ) : Type 0 where
  pub earlier : All (λ m. m < id) (stated_at bytes id).mandatory
  pub hypotheses : All (λ m. is_hypothesis (stated_at bytes m).kind ≡ true) (stated_at bytes id).mandatory
  pub stated : 0 < length (stated_at bytes id).symbols
  pub pair : (stated_at bytes id).kind ≡ kind.Float → length (stated_at bytes id).symbols ≡ 2
  pub ordered : (stated_at bytes id).from ≤ (stated_at bytes id).to
  pub within : (stated_at bytes id).to ≤ length bytes
