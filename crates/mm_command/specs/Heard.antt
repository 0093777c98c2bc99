-- The command that a line asks for.
use Rattle.std.specs.Prelude.{ℕ, Bool, true, false, List, [], ◌∷◌, Option, None, Some, is_some}
use Rattle.mm_command.specs.declared.command.StepWord.{StepWord}
use Rattle.mm_command.specs.declared.command.StepWord.TheVariants as step
use Rattle.mm_command.specs.Names.{Name, Nothing, Read, VerifyProof, VerifyMarkup, ShowStatement, ShowTraceBack, ShowUsage, ShowNewProof, SetUndo, SetTrials, SetBrackets, SetEmpty, WriteSource, OpenLog, CloseLog, Prove, Demo, Exit, Assign, Replace, LetVariable, LetStep, UnifyStep, UnifyAll, InitializeStep, InitializeAll, DeleteStep, DeleteAll, DeleteFloats, Improve, Minimize, Undo, Redo, Save}
use Rattle.mm_command.specs.Grammar.{Value, Bytes, TextAt, EqualsGiven, Numbered, LastStep, AllSteps, On, Said}
use Rattle.mm_command.specs.Meanings.{Meaning}
use Rattle.mm_command.specs.Meanings as meaning

abbrev pub step_in : Value → StepWord
step_in (Numbered n) = step.Number n
step_in LastStep = step.Last
step_in value = step.First

abbrev pub switch_in : Value → Bool
switch_in On = true
switch_in value = false

abbrev pub number_in : Option Value → Option ℕ
number_in (Some (Numbered n)) = Some n
number_in given = None

abbrev pub bytes_in : Option Value → Option (List ℕ)
bytes_in (Some (Bytes bytes)) = Some bytes
bytes_in given = None

-- the command that a name, its arguments and its qualifiers say
unfoldable pub heard : Name → List Value → List (Option Value) → Option Meaning
heard Nothing [] [] = Some meaning.Nothing
heard Read (Bytes file ∷ []) [] = Some (meaning.Read file)
heard VerifyProof (Bytes pattern ∷ []) [] = Some (meaning.VerifyProof pattern)
heard VerifyMarkup (Bytes pattern ∷ []) [] = Some (meaning.VerifyMarkup pattern)
heard ShowStatement (Bytes label ∷ []) (None ∷ []) = Some (meaning.ShowStatement label)
heard ShowStatement (Bytes label ∷ []) (Some g ∷ []) = Some (meaning.ShowPage label)
heard ShowTraceBack (Bytes label ∷ []) (axioms ∷ []) = Some (meaning.ShowTraceBack label (is_some axioms))
heard ShowUsage (Bytes label ∷ []) (recursive ∷ []) = Some (meaning.ShowUsage label (is_some recursive))
heard ShowNewProof [] (unknown ∷ []) = Some (meaning.ShowNewProof (is_some unknown))
heard SetUndo (Numbered n ∷ []) [] = Some (meaning.SetUndo n)
heard SetTrials (Numbered n ∷ []) [] = Some (meaning.SetTrials n)
heard SetBrackets (on ∷ []) [] = Some (meaning.SetBrackets (switch_in on))
heard SetEmpty (on ∷ []) [] = Some (meaning.SetEmpty (switch_in on))
heard WriteSource (Bytes file ∷ []) [] = Some (meaning.WriteSource file)
heard OpenLog (Bytes file ∷ []) [] = Some (meaning.OpenLog file)
heard CloseLog [] [] = Some meaning.CloseLog
heard Prove (Bytes label ∷ []) (guarded_too ∷ []) = Some (meaning.Prove label (is_some guarded_too))
heard Demo (Numbered n ∷ []) [] = Some (meaning.Demo n)
heard Exit [] (force ∷ []) = Some (meaning.Exit (is_some force))
heard Assign (at ∷ Bytes label ∷ []) (guarded_too ∷ []) = Some (meaning.Assign (step_in at) label (is_some guarded_too))
heard Replace (at ∷ Bytes label ∷ []) (guarded_too ∷ []) = Some (meaning.Replace (step_in at) label (is_some guarded_too))
heard LetVariable (Numbered number ∷ EqualsGiven ∷ TextAt text word ∷ []) [] = Some (meaning.LetVariable number text word)
heard LetStep (at ∷ EqualsGiven ∷ TextAt text word ∷ []) [] = Some (meaning.LetStep (step_in at) text word)
heard UnifyStep (at ∷ []) (choice ∷ []) = Some (meaning.UnifyStep (step_in at) (number_in choice))
heard UnifyAll [] [] = Some meaning.UnifyAll
heard InitializeStep (at ∷ []) [] = Some (meaning.InitializeStep (step_in at))
heard InitializeAll [] [] = Some meaning.InitializeAll
heard DeleteStep (at ∷ []) [] = Some (meaning.DeleteStep (step_in at))
heard DeleteAll [] [] = Some meaning.DeleteAll
heard DeleteFloats [] [] = Some meaning.DeleteFloats
heard Improve (AllSteps ∷ []) (depth ∷ no_distinct ∷ []) = Some (meaning.ImproveAll (number_in depth) (is_some no_distinct))
heard Improve (at ∷ []) (depth ∷ no_distinct ∷ []) = Some (meaning.Improve (step_in at) (number_in depth) (is_some no_distinct))
heard Minimize (Bytes pattern ∷ []) (except ∷ forbid ∷ no_new_axioms ∷ may_grow ∷ guarded_too ∷ []) = Some (meaning.Minimize pattern (bytes_in except) (bytes_in forbid) (bytes_in no_new_axioms) (is_some may_grow) (is_some guarded_too))
heard Undo [] [] = Some meaning.Undo
heard Redo [] [] = Some meaning.Redo
heard Save [] (normal ∷ compressed ∷ guarded_too ∷ []) = Some (meaning.Save (is_some normal) (is_some compressed) (is_some guarded_too))
heard name values given = None

-- the command of what a line says; none where no command is said so
abbrev pub meaning_in : Said → Option Meaning
meaning_in said = heard said.name said.values said.given
