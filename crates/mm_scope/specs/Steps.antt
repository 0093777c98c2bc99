-- Reading token by token, over anything that answers what is declared and takes the next event.
use Rattle.std.specs.Prelude.{ℕ, ◌+◌, Bool, not, ◌||◌, ◌&&◌, ◌==◌, nat_lt, List, [], ◌∷◌, ◌++◌, Option, length, Result, Ok, Err, if◌then◌else◌}
use Rattle.std.specs.List.{list_any}
use Rattle.mm_tokens.specs.declared.pieces.Span.{Span}
use Rattle.mm_tokens.specs.Words.{is_bad_label, is_bad_symbol}
use Rattle.mm_scope.specs.Events.{Event, constant, variable, float, essential, asserted, theorem, distinct, opened, closed}
use Rattle.mm_tokens.specs.declared.word.Word.{Word}
use Rattle.mm_tokens.specs.declared.word.Word.TheVariants as word
use Rattle.mm_scope.specs.declared.mode.Mode.{Mode}
use Rattle.mm_scope.specs.declared.mode.Mode.TheVariants as mode
use Rattle.mm_scope.specs.declared.fault.ReadFault.{ReadFault}
use Rattle.mm_scope.specs.declared.fault.ReadFault.TheVariants as fault

-- what is known of a text: its number as a symbol, whether it was ever declared, is a constant, is an active
-- variable, has an active `$f`, is a label; and whether a block is open
pub record Answers : Type 0 where
  pub number : ℕ
  pub known : Bool
  pub constant : Bool
  pub active : Bool
  pub floated : Bool
  pub label : Bool
  pub deep : Bool

-- the longest statement, in symbols
abbrev pub most_symbols : ℕ
most_symbols = 32768

-- the longest label, in bytes
abbrev pub most_label : ℕ
most_label = 255

-- What has been read: the context; of the statement that is begun its form, its place, its label, its description,
-- its symbols and where its proof begins; and the last comment since the last token.
pub record State (C : Type 0) : Type 0 where
  pub context : C
  pub mode : Mode
  pub begun : ℕ
  pub label : List ℕ
  pub described : Option Span
  pub buffer : List ℕ
  pub proof : ℕ
  pub comment : Option Span

-- the fault of the first check that holds, if one does
abbrev pub unless : {A : Type 0} → List (Bool × ReadFault) → Result A ReadFault → Result A ReadFault
unless [] r = r
unless (c ∷ cs) r = if c.0 then Err c.1 else unless cs r

module _ {C : Type 0} where
  -- a statement begins
  abbrev pub begin : State C → Mode → ℕ → State C
  begin s m p = record s { mode = m; begun = p; buffer = [] }

  abbrev pub take_symbol : State C → ℕ → State C
  take_symbol s n = record s { buffer = s.buffer ++ n ∷ [] }

  -- one more symbol is too many
  abbrev pub is_full : State C → Bool
  is_full s = not (nat_lt (length s.buffer) most_symbols)

  -- a label, between statements
  unfoldable pub a_label : State C → Answers → List ℕ → ℕ → Result (State C) ReadFault
  a_label s a t p =
      if is_bad_label t then Err (fault.BadLabel p)
      else (if (a.label || a.known) then Err (fault.LabelUsed p)
      else (if nat_lt most_label (length t) then Err (fault.TooLong p)
      else Ok (record s { mode = mode.Labelled; begun = p; label = t; described = s.comment })))

  -- a symbol of `$f`: a constant, then a variable
  unfoldable pub a_float : State C → Answers → ℕ → Result (State C) ReadFault
  a_float s a p =
      if not (a.constant || a.active) then Err (fault.NotActive p)
      else (if length s.buffer == 0 then (if a.constant then Ok (take_symbol s a.number) else Err (fault.WrongForm p))
      else (if (nat_lt 1 (length s.buffer) || a.constant) then Err (fault.WrongForm p)
      else (if a.floated then Err (fault.FloatRepeated p) else Ok (take_symbol s a.number))))

  -- a symbol of `$e`, `$a` or `$p`: a constant, and then constants and variables that have a `$f`
  abbrev pub symbol_checks : State C → Answers → ℕ → List (Bool × ReadFault)
  symbol_checks s a p =
      (not (a.constant || a.active), fault.NotActive p)
      ∷ (length s.buffer == 0 && not a.constant, fault.WrongForm p)
      ∷ (not a.constant && not a.floated, fault.NoFloat p)
      ∷ (is_full s, fault.TooLong p)
      ∷ []

  unfoldable pub a_symbol : State C → Answers → ℕ → Result (State C) ReadFault
  a_symbol s a p = unless (symbol_checks s a p) (Ok (take_symbol s a.number))

  -- a symbol of `$d`: an active variable that isn't there yet
  unfoldable pub a_distinct : State C → Answers → ℕ → Result (State C) ReadFault
  a_distinct s a p =
      if not (a.constant || a.active) then Err (fault.NotActive p)
      else (if (a.constant || list_any (λ n. a.number == n) s.buffer) then Err (fault.DistinctForm p)
      else (if is_full s then Err (fault.TooLong p)
      else Ok (take_symbol s a.number)))

  -- the end of a declaration
  abbrev pub end_declaration : State C → ℕ → Result (State C) ReadFault
  end_declaration s p = if length s.buffer == 0 then Err (fault.WrongForm p) else Ok (record s { mode = mode.Start; buffer = [] })

  -- `$=`
  unfoldable pub at_proof : State C → Mode → ℕ → Result (State C) ReadFault
  at_proof s mode.Theorem p = if length s.buffer == 0 then Err (fault.WrongForm p) else Ok (record s { mode = mode.Proof; proof = p + 2 })
  at_proof s _ p = Err (fault.WrongForm p)

  -- another keyword that begins a statement without a label
  unfoldable pub unlabelled : State C → Mode → Mode → ℕ → Result (State C) ReadFault
  unlabelled s mode.Start m p = Ok (begin s m p)
  unlabelled s mode.Labelled m p = Err (fault.LabelNotWanted p)
  unlabelled s _ m p = Err (fault.WrongForm p)

  -- `$c`
  unfoldable pub at_constants : State C → Mode → Bool → ℕ → Result (State C) ReadFault
  at_constants s mode.Start deep p = if deep then Err (fault.ConstantInBlock p) else Ok (begin s mode.Constants p)
  at_constants s mode.Labelled deep p = if deep then Err (fault.ConstantInBlock p) else Err (fault.LabelNotWanted p)
  at_constants s _ deep p = Err (fault.WrongForm p)

  -- a keyword that begins a statement with a label
  unfoldable pub labelled : State C → Mode → Mode → ℕ → Result (State C) ReadFault
  labelled s mode.Labelled m p = Ok (begin s m p)
  labelled s mode.Start m p = Err (fault.LabelMissing p)
  labelled s _ m p = Err (fault.WrongForm p)

module _ {C : Type 0} (add : C → Event → C) where
  -- one statement is done
  abbrev pub done : State C → Event → State C
  done s e = record s { context = add s.context e; mode = mode.Start; buffer = [] }

  -- a symbol of `$c`
  unfoldable pub a_constant : State C → Answers → List ℕ → ℕ → Result (State C) ReadFault
  a_constant s a t p =
      if is_bad_symbol t then Err (fault.BadSymbol p)
      else (if (a.known || a.label) then Err (fault.Redeclared p)
      else (if is_full s then Err (fault.TooLong p)
      else Ok (record s { context = add s.context (constant t a.number); buffer = s.buffer ++ a.number ∷ [] })))

  -- a symbol of `$v`
  unfoldable pub a_variable : State C → Answers → List ℕ → ℕ → Result (State C) ReadFault
  a_variable s a t p =
      if is_bad_symbol t then Err (fault.BadSymbol p)
      else (if (a.active || a.constant || a.label) then Err (fault.Redeclared p)
      else (if is_full s then Err (fault.TooLong p)
      else Ok (record s { context = add s.context (variable t a.number); buffer = s.buffer ++ a.number ∷ [] })))

  -- a token that is no keyword
  unfoldable pub at_text : State C → Mode → Answers → List ℕ → ℕ → Result (State C) ReadFault
  at_text s mode.Start a t p = a_label s a t p
  at_text s mode.Labelled a t p = Err (fault.WrongForm p)
  at_text s mode.Constants a t p = a_constant s a t p
  at_text s mode.Variables a t p = a_variable s a t p
  at_text s mode.Distinct a t p = a_distinct s a p
  at_text s mode.Float a t p = a_float s a p
  at_text s mode.Essential a t p = a_symbol s a p
  at_text s mode.Axiom a t p = a_symbol s a p
  at_text s mode.Theorem a t p = a_symbol s a p
  at_text s mode.Proof a t p = Ok s

  -- the end of `$f`
  abbrev pub end_float : State C → ℕ → Result (State C) ReadFault
  end_float s p = if length s.buffer == 2 then Ok (done s (float s.label s.buffer s.described)) else Err (fault.WrongForm p)

  -- the end of a statement that gives the event
  abbrev pub end_statement : State C → Event → ℕ → Result (State C) ReadFault
  end_statement s e p = if length s.buffer == 0 then Err (fault.WrongForm p) else Ok (done s e)

  -- the end of `$d`
  abbrev pub end_distinct : State C → ℕ → Result (State C) ReadFault
  end_distinct s p = if nat_lt (length s.buffer) 2 then Err (fault.DistinctForm p) else Ok (done s (distinct s.buffer))

  -- `$.`
  unfoldable pub at_end : State C → Mode → ℕ → Result (State C) ReadFault
  at_end s mode.Start p = Err (fault.WrongForm p)
  at_end s mode.Labelled p = Err (fault.WrongForm p)
  at_end s mode.Constants p = end_declaration s p
  at_end s mode.Variables p = end_declaration s p
  at_end s mode.Distinct p = end_distinct s p
  at_end s mode.Float p = end_float s p
  at_end s mode.Essential p = end_statement s (essential s.label s.buffer s.described) p
  at_end s mode.Axiom p = end_statement s (asserted s.label s.buffer s.described) p
  at_end s mode.Theorem p = Err (fault.WrongForm p)
  at_end s mode.Proof p = Ok (done s (theorem s.label s.buffer s.proof p s.described))

  -- `${`
  unfoldable pub at_open : State C → Mode → ℕ → Result (State C) ReadFault
  at_open s mode.Start p = Ok (record s { context = add s.context (opened p) })
  at_open s mode.Labelled p = Err (fault.LabelNotWanted p)
  at_open s _ p = Err (fault.WrongForm p)

  -- `$}`
  unfoldable pub at_close : State C → Mode → Bool → ℕ → Result (State C) ReadFault
  at_close s mode.Start deep p = if deep then Ok (record s { context = add s.context closed }) else Err (fault.BlockNotOpen p)
  at_close s mode.Labelled deep p = Err (fault.LabelNotWanted p)
  at_close s _ deep p = Err (fault.WrongForm p)

  -- the token t, which is the word w and stands at p
  unfoldable pub step_by : State C → Answers → Word → List ℕ → ℕ → Result (State C) ReadFault
  step_by s a word.Unknown t p = Err (fault.UnknownKeyword p)
  step_by s a word.Inclusion t p = Err (fault.FileInclusion p)
  step_by s a word.Text t p = at_text s s.mode a t p
  step_by s a word.End t p = at_end s s.mode p
  step_by s a word.Proof t p = at_proof s s.mode p
  step_by s a word.Constants t p = at_constants s s.mode a.deep p
  step_by s a word.Variables t p = unlabelled s s.mode mode.Variables p
  step_by s a word.Distinct t p = unlabelled s s.mode mode.Distinct p
  step_by s a word.Open t p = at_open s s.mode p
  step_by s a word.Close t p = at_close s s.mode a.deep p
  step_by s a word.Float t p = labelled s s.mode mode.Float p
  step_by s a word.Essential t p = labelled s s.mode mode.Essential p
  step_by s a word.Axiom t p = labelled s s.mode mode.Axiom p
  step_by s a word.Theorem t p = labelled s s.mode mode.Theorem p
