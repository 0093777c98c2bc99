-- What the reader keeps: tables of what is in force now, and what ends with the blocks that are open.
use Rattle.std.specs.Prelude.{◌≡◌, ℕ, ◌-◌, true, false, not, ◌==◌, List, [], ◌∷◌, ◌++◌, Option, None, Some, Result, Ok, Err, length, take, drop, map, slice_get, slice_index, if◌then◌else◌, fold}
use Rattle.std.specs.List.{list_any}
use Rattle.std.specs.Str.{bytes_eq}
use Rattle.mm_tokens.specs.declared.pieces.Span.{Span}
use Rattle.mm_tables.specs.Layered.{Layered}
use Rattle.mm_tables.specs.Layered as layers
use Rattle.mm_tables.specs.Texts.{with_text}
use Rattle.mm_scope.specs.Events.{Event, constant, variable, float, essential, asserted, theorem, distinct, opened, closed}
use Rattle.mm_stated.specs.Statements.{stated}
use Rattle.mm_stated.specs.Mandatory.{an_assertion_with}
use Rattle.mm_stated.specs.Needed.{needed_by}
use Rattle.mm_tables.specs.Standings.{Standings}
use Rattle.mm_stated.specs.Stated.{Stated, a_hypothesis}
use Rattle.mm_scope.specs.Steps.{Answers, State}
use Rattle.mm_tables.specs.Tables.{nothing, found_in, with_symbol, with_state, standing_at}
use Rattle.mm_scope.specs.Until.{ended_before}
use Rattle.mm_tables.specs.declared.table.Standing.{Standing}
use Rattle.mm_stated.specs.declared.statement.Kind.{Kind}
use Rattle.mm_stated.specs.declared.statement.Kind.TheVariants as kind
use Rattle.mm_scope.specs.declared.ending.Ending.{Ending}
use Rattle.mm_scope.specs.declared.ending.Ending.TheVariants.{Active, Floated}
use Rattle.mm_scope.specs.declared.ending.Block.{Block}
use Rattle.mm_scope.specs.declared.reader.Reader.{Reader}
use Rattle.mm_scope.specs.declared.mode.Mode.TheVariants as mode
use Rattle.mm_scope.specs.declared.fault.ReadFault.{ReadFault}
use Rattle.mm_scope.specs.declared.fault.ReadFault.TheVariants.{Memory}

pub record Context : Type 0 where
  pub table : Standings
  pub labels : List (List ℕ)
  pub statements : List Stated
  pub until : List (Option ℕ)
  pub endings : List Ending
  pub hypotheses : List ℕ
  pub blocks : List Block
  pub partings : Layered (List ℕ)
  pub actives : Layered ℕ
  pub essentials : Layered ℕ
  pub variables : Layered ℕ
  pub known : List ℕ

abbrev pub context_of : Reader → Context
context_of r = record {
  table = r.symbols;
  labels = r.labels;
  statements = map stated r.statements.items;
  until = r.until.items;
  endings = r.endings.items;
  hypotheses = r.hypotheses.items;
  blocks = r.blocks.items;
  partings = r.partings;
  actives = r.actives;
  essentials = r.essentials;
  variables = r.variables;
  known = r.known.items;
}

abbrev pub state_of : Reader → State Context
state_of r = record {
  context = context_of r;
  mode = r.mode;
  begun = r.begun;
  label = r.label.items;
  described = r.described;
  buffer = r.buffer;
  proof = r.proof;
  comment = r.comment;
}

abbrev pub answers : Context → List ℕ → Answers
answers c t =
    let found = found_in c.table t in
    record {
      number = found.number;
      known = found.known;
      constant = found.standing.constant;
      active = found.standing.active;
      floated = found.standing.floated;
      label = list_any (bytes_eq t) c.labels;
      deep = not (length c.blocks == 0);
    }

abbrev pub activated : Standing → Standing
activated s = record s { active = true }

abbrev pub with_float : Standing → ℕ → Standing
with_float s id = record s { floated = true; float = id }

-- what is in force before the next labelled statement is noted
abbrev pub noted_layers : Context → Context
noted_layers c = record c {
  partings = layers.marked c.partings;
  actives = layers.marked c.actives;
  variables = layers.marked c.variables;
  known = c.known ++ length c.table.texts ∷ [];
}

-- one labelled statement more, with its label and until when it is active
abbrev pub with_statement : Context → List ℕ → Stated → Option ℕ → Context
with_statement c l s u = record (noted_layers c) {
  labels = with_text c.labels l;
  statements = c.statements ++ s ∷ [];
  until = c.until ++ u ∷ [];
}

abbrev pub with_hypothesis : Context → List ℕ → Kind → List ℕ → Option Span → Context
with_hypothesis c l k ss d = record (with_statement c l (a_hypothesis k ss d) None) {
  hypotheses = c.hypotheses ++ length c.labels ∷ [];
  actives = layers.pushed (layers.marked c.actives) (length c.labels ∷ []);
}

abbrev pub with_assertion : Context → List ℕ → Kind → List ℕ → ℕ → ℕ → Option Span → Context
with_assertion c l k ss from to d =
    with_statement c l (an_assertion_with c.statements (needed_by c.table c.statements c.essentials.now ss) c.partings.now k ss from to d) (Some 0)

-- what an ending ends
abbrev pub ended : Standings → Ending → Standings
ended t (Active n) = with_state t n (record (standing_at t n) { active = false })
ended t (Floated n) = with_state t n (record (standing_at t n) { floated = false })

-- a block begins or ends for what is kept in layers
abbrev pub begun_layers : Context → Context
begun_layers c = record c {
  partings = layers.begun c.partings;
  actives = layers.begun c.actives;
  essentials = layers.begun c.essentials;
  variables = layers.begun c.variables;
}

abbrev pub closed_layers : Context → Context
closed_layers c = record c {
  partings = layers.ended c.partings;
  actives = layers.ended c.actives;
  essentials = layers.ended c.essentials;
  variables = layers.ended c.variables;
}

abbrev pub close : Context → Option Block → Context
close c None = c
close c (Some b) = record c {
  table = fold ended c.table (drop b.endings c.endings);
  endings = take b.endings c.endings;
  until = fold (ended_before (length c.labels)) c.until (drop b.hypotheses c.hypotheses);
  hypotheses = take b.hypotheses c.hypotheses;
  blocks = take (length c.blocks - 1) c.blocks;
}

unfoldable pub add_to : Context → Event → Context
add_to c (constant t n) = record c { table = with_symbol c.table t (record { constant = true; active = false; floated = false; float = 0 }) }
add_to c (variable t n) =
    let found = found_in c.table t in
    record c {
      table = if found.known then with_state c.table found.number (activated found.standing) else with_symbol c.table t (activated nothing);
      endings = c.endings ++ Active found.number ∷ [];
      variables = layers.pushed c.variables (n ∷ []);
    }
add_to c (float l ss s) =
    let v = slice_index ss 1 in
    record (with_hypothesis c l kind.Float ss s) { table = with_state c.table v (with_float (standing_at c.table v) (length c.labels)); endings = c.endings ++ Floated v ∷ [] }
add_to c (essential l ss s) = record (with_hypothesis c l kind.Essential ss s) { essentials = layers.pushed c.essentials (length c.labels ∷ []) }
add_to c (asserted l ss s) = with_assertion c l kind.Axiom ss 0 0 s
add_to c (theorem l ss from to s) = with_assertion c l kind.Theorem ss from to s
add_to c (distinct ss) = record c { partings = layers.pushed c.partings (ss ∷ []) }
add_to c (opened p) = record (begun_layers c) { blocks = c.blocks ++ record { place = p; endings = length c.endings; hypotheses = length c.hypotheses } ∷ [] }
add_to c closed = close (closed_layers c) (slice_get c.blocks (length c.blocks - 1))

abbrev pub noted : State Context → State Context
noted s = record s { context = noted_layers s.context }

-- the statement that is begun is done
abbrev pub finished : State Context → Stated → Option ℕ → State Context
finished s d u = record s { context = with_statement s.context s.label d u; mode = mode.Start; buffer = [] }

abbrev pub finished_hypothesis : State Context → Kind → State Context
finished_hypothesis s k = record s { context = with_hypothesis s.context s.label k s.buffer s.described; mode = mode.Start; buffer = [] }

abbrev pub finished_assertion : State Context → Kind → ℕ → ℕ → State Context
finished_assertion s k from to = record s { context = with_assertion s.context s.label k s.buffer from to s.described; mode = mode.Start; buffer = [] }

abbrev pub closed_block : State Context → State Context
closed_block s = record s { context = close (closed_layers s.context) (slice_get s.context.blocks (length s.context.blocks - 1)) }

-- what a call left and returned is what reading gives, unless memory ran out
abbrev pub Fails : {A : Type 0} → ReadFault → Result A ReadFault → Type 0
Fails Memory read = Unit {0}
Fails e read = read ≡ Err e

abbrev pub Gives : Reader → Result (Unit {0}) ReadFault → Result (State Context) ReadFault → Type 0
Gives new (Ok _) read = read ≡ Ok (state_of new)
Gives new (Err e) read = Fails e read

abbrev pub GivesReader : Result Reader ReadFault → Result (State Context) ReadFault → Type 0
GivesReader (Ok r) read = read ≡ Ok (state_of r)
GivesReader (Err e) read = Fails e read

-- a reader that has read the pieces, and where the comment begins that is not ended
abbrev pub GivesPieces : Reader → Result (Option ℕ) ReadFault → Result (State Context) ReadFault → Option ℕ → Type 0
GivesPieces new (Ok unclosed) read place = (read ≡ Ok (state_of new)) × (unclosed ≡ place)
GivesPieces new (Err e) read place = Fails e read

-- before the first token
abbrev pub empty_state : State Context
empty_state = record {
  context = record {
    table = record { texts = []; standings = [] };
    labels = [];
    statements = [];
    until = [];
    endings = [];
    hypotheses = [];
    blocks = [];
    partings = layers.nothing;
    actives = layers.nothing;
    essentials = layers.nothing;
    variables = layers.nothing;
    known = [];
  };
  mode = mode.Start;
  begun = 0;
  label = [];
  described = None;
  buffer = [];
  proof = 0;
  comment = None;
}
