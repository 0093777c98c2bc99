-- A labelled statement.
use Rattle.std.specs.Prelude.{ℕ, Bool, true, false, List, [], Option, None, slice_get}
use Rattle.mm_tokens.specs.declared.pieces.Span.{Span}
use Rattle.mm_stated.specs.declared.statement.Kind.{Kind}
use Rattle.mm_stated.specs.declared.statement.Kind.TheVariants as kind

-- Its kind; its symbols by number; the ids of its mandatory hypotheses in order, and its mandatory pairs of variables
-- that must differ, none for a hypothesis; of a theorem the places after `$=` and of `$.`, 0 and 0 of another statement;
-- and the last comment between the label and the token before it.
pub record Stated : Type 0 where
  pub kind : Kind
  pub symbols : List ℕ
  pub mandatory : List ℕ
  pub pairs : List (ℕ × ℕ)
  pub from : ℕ
  pub to : ℕ
  pub described : Option Span

-- stands for a statement where there is none
abbrev pub no_statement : Stated
no_statement = record { kind = kind.Axiom; symbols = []; mandatory = []; pairs = []; from = 0; to = 0; described = None }

-- a hypothesis
abbrev pub a_hypothesis : Kind → List ℕ → Option Span → Stated
a_hypothesis k ss d = record { kind = k; symbols = ss; mandatory = []; pairs = []; from = 0; to = 0; described = d }

abbrev pub is_essential : Kind → Bool
is_essential kind.Essential = true
is_essential kind.Float = false
is_essential kind.Axiom = false
is_essential kind.Theorem = false

abbrev pub is_hypothesis : Kind → Bool
is_hypothesis kind.Float = true
is_hypothesis kind.Essential = true
is_hypothesis kind.Axiom = false
is_hypothesis kind.Theorem = false

abbrev pub is_same_kind : Kind → Kind → Bool
is_same_kind kind.Float kind.Float = true
is_same_kind kind.Essential kind.Essential = true
is_same_kind kind.Axiom kind.Axiom = true
is_same_kind kind.Theorem kind.Theorem = true
is_same_kind _ _ = false

-- the symbol at a place of a `$f`; none of another statement
abbrev pub floated_by : Kind → List ℕ → ℕ → Option ℕ
floated_by kind.Float symbols place = slice_get symbols place
floated_by kind.Essential symbols place = None
floated_by kind.Axiom symbols place = None
floated_by kind.Theorem symbols place = None

-- the typecode of a `$f`
abbrev pub typecode_of : Stated → Option ℕ
typecode_of s = floated_by s.kind s.symbols 0

-- the variable of a `$f`
abbrev pub variable_of : Stated → Option ℕ
variable_of s = floated_by s.kind s.symbols 1
