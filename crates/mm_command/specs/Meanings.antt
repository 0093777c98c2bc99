-- A command by itself, wherever its words stand.
use Rattle.std.specs.Prelude.{ℕ, Bool, List, Option, option_map}
use Rattle.std.specs.Borrow.{Bor}
use Rattle.mm_command.specs.declared.command.StepWord.{StepWord}
use Rattle.mm_command.specs.declared.command.Command.{Command}
use Rattle.mm_command.specs.declared.command.Command.TheVariants as command

-- a `Command` with lists of bytes for parts of a line
pub data Meaning : Type 0 where
  Nothing : Meaning
  Read : List ℕ → Meaning
  VerifyProof : List ℕ → Meaning
  VerifyMarkup : List ℕ → Meaning
  ShowStatement : List ℕ → Meaning
  ShowPage : List ℕ → Meaning
  ShowTraceBack : List ℕ → Bool → Meaning
  ShowUsage : List ℕ → Bool → Meaning
  ShowNewProof : Bool → Meaning
  SetUndo : ℕ → Meaning
  SetTrials : ℕ → Meaning
  SetBrackets : Bool → Meaning
  SetEmpty : Bool → Meaning
  WriteSource : List ℕ → Meaning
  OpenLog : List ℕ → Meaning
  CloseLog : Meaning
  Prove : List ℕ → Bool → Meaning
  Demo : ℕ → Meaning
  Exit : Bool → Meaning
  Assign : StepWord → List ℕ → Bool → Meaning
  Replace : StepWord → List ℕ → Bool → Meaning
  LetVariable : ℕ → List ℕ → ℕ → Meaning
  LetStep : StepWord → List ℕ → ℕ → Meaning
  UnifyStep : StepWord → Option ℕ → Meaning
  UnifyAll : Meaning
  InitializeStep : StepWord → Meaning
  InitializeAll : Meaning
  DeleteStep : StepWord → Meaning
  DeleteAll : Meaning
  DeleteFloats : Meaning
  Improve : StepWord → Option ℕ → Bool → Meaning
  ImproveAll : Option ℕ → Bool → Meaning
  Minimize : List ℕ → Option (List ℕ) → Option (List ℕ) → Option (List ℕ) → Bool → Bool → Meaning
  Undo : Meaning
  Redo : Meaning
  Save : Bool → Bool → Bool → Meaning

abbrev pub bytes_of : Option (Bor (List ℕ)) → Option (List ℕ)
bytes_of word = option_map (λ w. w.now) word

abbrev pub meaning_of : Command → Meaning
meaning_of command.Nothing = Nothing
meaning_of (command.Read file) = Read file.now
meaning_of (command.VerifyProof pattern) = VerifyProof pattern.now
meaning_of (command.VerifyMarkup pattern) = VerifyMarkup pattern.now
meaning_of (command.ShowStatement label) = ShowStatement label.now
meaning_of (command.ShowPage label) = ShowPage label.now
meaning_of (command.ShowTraceBack label axioms) = ShowTraceBack label.now axioms
meaning_of (command.ShowUsage label recursive) = ShowUsage label.now recursive
meaning_of (command.ShowNewProof unknown) = ShowNewProof unknown
meaning_of (command.SetUndo n) = SetUndo n
meaning_of (command.SetTrials n) = SetTrials n
meaning_of (command.SetBrackets on) = SetBrackets on
meaning_of (command.SetEmpty on) = SetEmpty on
meaning_of (command.WriteSource file) = WriteSource file.now
meaning_of (command.OpenLog file) = OpenLog file.now
meaning_of command.CloseLog = CloseLog
meaning_of (command.Prove label guarded_too) = Prove label.now guarded_too
meaning_of (command.Demo n) = Demo n
meaning_of (command.Exit force) = Exit force
meaning_of (command.Assign at label guarded_too) = Assign at label.now guarded_too
meaning_of (command.Replace at label guarded_too) = Replace at label.now guarded_too
meaning_of (command.LetVariable number text word) = LetVariable number text.now word
meaning_of (command.LetStep at text word) = LetStep at text.now word
meaning_of (command.UnifyStep at choice) = UnifyStep at choice
meaning_of command.UnifyAll = UnifyAll
meaning_of (command.InitializeStep at) = InitializeStep at
meaning_of command.InitializeAll = InitializeAll
meaning_of (command.DeleteStep at) = DeleteStep at
meaning_of command.DeleteAll = DeleteAll
meaning_of command.DeleteFloats = DeleteFloats
meaning_of (command.Improve at depth no_distinct) = Improve at depth no_distinct
meaning_of (command.ImproveAll depth no_distinct) = ImproveAll depth no_distinct
meaning_of (command.Minimize pattern except forbid no_new_axioms may_grow guarded_too) = Minimize pattern.now (bytes_of except) (bytes_of forbid) (bytes_of no_new_axioms) may_grow guarded_too
meaning_of command.Undo = Undo
meaning_of command.Redo = Redo
meaning_of (command.Save normal compressed guarded_too) = Save normal compressed guarded_too
