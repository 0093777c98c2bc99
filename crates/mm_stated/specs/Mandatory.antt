-- The mandatory hypotheses and pairs of an assertion (Metamath book, sections 4.1.3 and 4.2.2).
use Rattle.std.specs.Prelude.{ℕ, Bool, true, false, ◌==◌, List, [], ◌++◌, Option, slice_index, slice_index_or, filter, filter_map, flat_map, if◌then◌else◌}
use Rattle.std.specs.List.{list_any}
use Rattle.mm_tokens.specs.declared.pieces.Span.{Span}
use Rattle.mm_tables.specs.Distinct.{pairs_among}
use Rattle.mm_stated.specs.Stated.{Stated, no_statement, is_essential, variable_of}
use Rattle.mm_stated.specs.declared.statement.Kind.{Kind}
use Rattle.mm_stated.specs.declared.statement.Kind.TheVariants as kind

abbrev pub statement_at : List Stated → ℕ → Stated
statement_at statements id = slice_index_or statements id no_statement

-- the symbols of a `$e`; none of another statement
abbrev pub essential_symbols : Stated → List ℕ
essential_symbols s = if is_essential s.kind then s.symbols else []

-- the symbols of an assertion and those of its active `$e`: the variables among them are the mandatory ones
unfoldable pub symbols_with : List Stated → List ℕ → List ℕ → List ℕ
symbols_with statements active symbols = symbols ++ flat_map (λ id. essential_symbols (statement_at statements id)) active

-- a `$e` is mandatory, and a `$f` whose variable is needed
abbrev pub is_mandatory_by : Kind → Bool → Bool
is_mandatory_by kind.Essential needed = true
is_mandatory_by kind.Float needed = needed
is_mandatory_by kind.Axiom needed = false
is_mandatory_by kind.Theorem needed = false

abbrev pub is_mandatory : List ℕ → Stated → Bool
is_mandatory needed s = is_mandatory_by s.kind (list_any (λ n. slice_index s.symbols 1 == n) needed)

-- the ids of the mandatory hypotheses, in order, of an assertion with these symbols, where these hypotheses are active
unfoldable pub mandatory_of : List Stated → List ℕ → List ℕ → List ℕ
mandatory_of statements active symbols =
    filter (λ id. is_mandatory (symbols_with statements active symbols) (statement_at statements id)) active

-- the variables of the `$f` among statements, in order
unfoldable pub variables_of : List Stated → List ℕ → List ℕ
variables_of statements ids = filter_map (λ id. variable_of (statement_at statements id)) ids

-- an assertion with these mandatory hypotheses, where these groups of variables are parted
abbrev pub an_assertion_with : List Stated → List ℕ → List (List ℕ) → Kind → List ℕ → ℕ → ℕ → Option Span → Stated
an_assertion_with statements needed groups k symbols from to d = record {
  kind = k;
  symbols = symbols;
  mandatory = needed;
  pairs = pairs_among groups (variables_of statements needed);
  from = from;
  to = to;
  described = d;
}

-- an assertion, where these hypotheses are active and these groups of variables are parted
abbrev pub an_assertion : List Stated → List ℕ → List (List ℕ) → Kind → List ℕ → ℕ → ℕ → Option Span → Stated
an_assertion statements active groups k symbols from to d = an_assertion_with statements (mandatory_of statements active symbols) groups k symbols from to d
