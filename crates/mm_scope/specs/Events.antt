-- What stands in a database, and what follows from it. A past is a list of events, the newest first.
use Rattle.std.specs.Prelude.{ℕ, zero, List, [], ◌∷◌, ◌++◌, Option, length, drop}
use Rattle.mm_tables.specs.Texts.{with_text}
use Rattle.mm_tokens.specs.declared.pieces.Span.{Span}
use Rattle.mm_tables.specs.Moves.{Move, in_force}
use Rattle.mm_tables.specs.Moves as move
use Rattle.mm_stated.specs.Mandatory.{an_assertion}
use Rattle.mm_stated.specs.Stated.{Stated, a_hypothesis}
use Rattle.mm_stated.specs.declared.statement.Kind.TheVariants as kind

-- Symbols are given by their text and number where they are declared, and by their number elsewhere. A labelled
-- statement has its label, its symbols and its description; a theorem also where its proof begins and ends.
pub data Event : Type 0 where
  constant : List ℕ → ℕ → Event
  variable : List ℕ → ℕ → Event
  float : List ℕ → List ℕ → Option Span → Event
  essential : List ℕ → List ℕ → Option Span → Event
  asserted : List ℕ → List ℕ → Option Span → Event
  theorem : List ℕ → List ℕ → ℕ → ℕ → Option Span → Event
  distinct : List ℕ → Event
  opened : ℕ → Event
  closed : Event

-- one event more
abbrev pub put : List Event → Event → List Event
put past e = e ∷ past

-- the symbols ever declared, each once, in order of first declaration
unfoldable pub symbols : List Event → List (List ℕ)
symbols [] = []
symbols (constant t n ∷ past) = with_text (symbols past) t
symbols (variable t n ∷ past) = with_text (symbols past) t
symbols (_ ∷ past) = symbols past

-- the labels, in order
unfoldable pub labels : List Event → List (List ℕ)
labels [] = []
labels (float l ss d ∷ past) = labels past ++ l ∷ []
labels (essential l ss d ∷ past) = labels past ++ l ∷ []
labels (asserted l ss d ∷ past) = labels past ++ l ∷ []
labels (theorem l ss from to d ∷ past) = labels past ++ l ∷ []
labels (_ ∷ past) = labels past

-- Blocks, and the hypotheses that end with them. The id of a hypothesis is the number of labels before it. Each labelled
-- statement is noted, a hypothesis before it is active.
unfoldable pub hypothesis_moves : List Event → List (Move ℕ)
hypothesis_moves [] = []
hypothesis_moves (float l ss d ∷ past) = move.item (length (labels past) ∷ []) ∷ move.noted ∷ hypothesis_moves past
hypothesis_moves (essential l ss d ∷ past) = move.item (length (labels past) ∷ []) ∷ move.noted ∷ hypothesis_moves past
hypothesis_moves (asserted l ss d ∷ past) = move.noted ∷ hypothesis_moves past
hypothesis_moves (theorem l ss from to d ∷ past) = move.noted ∷ hypothesis_moves past
hypothesis_moves (opened p ∷ past) = move.opened ∷ hypothesis_moves past
hypothesis_moves (closed ∷ past) = move.closed ∷ hypothesis_moves past
hypothesis_moves (_ ∷ past) = hypothesis_moves past

-- the ids of the active hypotheses, in order
abbrev pub active_hypotheses : List Event → List ℕ
active_hypotheses past = in_force zero (hypothesis_moves past)

-- blocks, and the variables that end with them, by number
unfoldable pub variable_moves : List Event → List (Move ℕ)
variable_moves [] = []
variable_moves (variable t n ∷ past) = move.item (n ∷ []) ∷ variable_moves past
variable_moves (float l ss d ∷ past) = move.noted ∷ variable_moves past
variable_moves (essential l ss d ∷ past) = move.noted ∷ variable_moves past
variable_moves (asserted l ss d ∷ past) = move.noted ∷ variable_moves past
variable_moves (theorem l ss from to d ∷ past) = move.noted ∷ variable_moves past
variable_moves (opened p ∷ past) = move.opened ∷ variable_moves past
variable_moves (closed ∷ past) = move.closed ∷ variable_moves past
variable_moves (_ ∷ past) = variable_moves past

-- the active variables, in order
abbrev pub active_variables : List Event → List ℕ
active_variables past = in_force zero (variable_moves past)

-- blocks, and the groups of variables that `$d` statements part, which end with them
unfoldable pub distinct_moves : List Event → List (Move (List ℕ))
distinct_moves [] = []
distinct_moves (distinct ss ∷ past) = move.item (ss ∷ []) ∷ distinct_moves past
distinct_moves (float l ss d ∷ past) = move.noted ∷ distinct_moves past
distinct_moves (essential l ss d ∷ past) = move.noted ∷ distinct_moves past
distinct_moves (asserted l ss d ∷ past) = move.noted ∷ distinct_moves past
distinct_moves (theorem l ss from to d ∷ past) = move.noted ∷ distinct_moves past
distinct_moves (opened p ∷ past) = move.opened ∷ distinct_moves past
distinct_moves (closed ∷ past) = move.closed ∷ distinct_moves past
distinct_moves (_ ∷ past) = distinct_moves past

-- the groups of the active `$d`, in order
abbrev pub active_distinct : List Event → List (List ℕ)
active_distinct past = in_force zero (distinct_moves past)

-- the labelled statements, in order
unfoldable pub statements : List Event → List Stated
statements [] = []
statements (float l ss d ∷ past) = statements past ++ a_hypothesis kind.Float ss d ∷ []
statements (essential l ss d ∷ past) = statements past ++ a_hypothesis kind.Essential ss d ∷ []
statements (asserted l ss d ∷ past) =
    statements past ++ an_assertion (statements past) (active_hypotheses past) (active_distinct past) kind.Axiom ss 0 0 d ∷ []
statements (theorem l ss from to d ∷ past) =
    statements past ++ an_assertion (statements past) (active_hypotheses past) (active_distinct past) kind.Theorem ss from to d ∷ []
statements (_ ∷ past) = statements past

-- where the blocks that are open began, the innermost first
unfoldable pub open_blocks : List Event → List ℕ
open_blocks [] = []
open_blocks (opened p ∷ past) = p ∷ open_blocks past
open_blocks (closed ∷ past) = drop 1 (open_blocks past)
open_blocks (_ ∷ past) = open_blocks past
