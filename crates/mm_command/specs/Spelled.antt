-- What spells each command.
use Rattle.std.specs.Prelude.{ℕ, Bool, true, false, List, [], ◌∷◌, Option, None, Some, option_map}
use Rattle.std.specs.Borrow.{Bor}
use Rattle.mm_command.specs.declared.command.StepWord.{StepWord}
use Rattle.mm_command.specs.declared.command.StepWord.TheVariants as step
use Rattle.mm_command.specs.declared.command.Command.{Command}
use Rattle.mm_command.specs.declared.command.Command.TheVariants as command
use Rattle.mm_command.specs.Names.{Name, Nothing, Read, VerifyProof, VerifyMarkup, ShowStatement, ShowTraceBack, ShowUsage, ShowNewProof, SetUndo, SetTrials, SetBrackets, SetEmpty, WriteSource, OpenLog, CloseLog, Prove, Demo, Exit, Assign, Replace, LetVariable, LetStep, UnifyStep, UnifyAll, InitializeStep, InitializeAll, DeleteStep, DeleteAll, DeleteFloats, Improve, Minimize, Undo, Redo, Save}
use Rattle.mm_command.specs.Grammar.{Value, Bytes, TextAt, EqualsGiven, Numbered, FirstStep, LastStep, AllSteps, On, Off, Given, Said}

abbrev pub said : Name → List Value → List (Option Value) → Said
said name values given = record { name = name; values = values; given = given }

abbrev pub step_value : StepWord → Value
step_value (step.Number n) = Numbered n
step_value step.First = FirstStep
step_value step.Last = LastStep

abbrev pub step_or_all : Option StepWord → Value
step_or_all None = AllSteps
step_or_all (Some at) = step_value at

abbrev pub switch_value : Bool → Value
switch_value true = On
switch_value false = Off

abbrev pub flag_value : Bool → Option Value
flag_value true = Some Given
flag_value false = None

abbrev pub number_value : Option ℕ → Option Value
number_value n = option_map (λ n. Numbered n) n

abbrev pub bytes_value : Option (Bor (List ℕ)) → Option Value
bytes_value word = option_map (λ w. Bytes w.now) word

abbrev pub spelled : Command → Said
spelled command.Nothing = said Nothing [] []
spelled (command.Read file) = said Read (Bytes file.now ∷ []) []
spelled (command.VerifyProof pattern) = said VerifyProof (Bytes pattern.now ∷ []) []
spelled (command.VerifyMarkup pattern) = said VerifyMarkup (Bytes pattern.now ∷ []) []
spelled (command.ShowStatement label) = said ShowStatement (Bytes label.now ∷ []) (None ∷ [])
spelled (command.ShowPage label) = said ShowStatement (Bytes label.now ∷ []) (Some Given ∷ [])
spelled (command.ShowTraceBack label axioms) = said ShowTraceBack (Bytes label.now ∷ []) (flag_value axioms ∷ [])
spelled (command.ShowUsage label recursive) = said ShowUsage (Bytes label.now ∷ []) (flag_value recursive ∷ [])
spelled (command.ShowNewProof unknown) = said ShowNewProof [] (flag_value unknown ∷ [])
spelled (command.SetUndo n) = said SetUndo (Numbered n ∷ []) []
spelled (command.SetTrials n) = said SetTrials (Numbered n ∷ []) []
spelled (command.SetBrackets on) = said SetBrackets (switch_value on ∷ []) []
spelled (command.SetEmpty on) = said SetEmpty (switch_value on ∷ []) []
spelled (command.WriteSource file) = said WriteSource (Bytes file.now ∷ []) []
spelled (command.OpenLog file) = said OpenLog (Bytes file.now ∷ []) []
spelled command.CloseLog = said CloseLog [] []
spelled (command.Prove label guarded_too) = said Prove (Bytes label.now ∷ []) (flag_value guarded_too ∷ [])
spelled (command.Demo n) = said Demo (Numbered n ∷ []) []
spelled (command.Exit force) = said Exit [] (flag_value force ∷ [])
spelled (command.Assign at label guarded_too) = said Assign (step_value at ∷ Bytes label.now ∷ []) (flag_value guarded_too ∷ [])
spelled (command.Replace at label guarded_too) = said Replace (step_value at ∷ Bytes label.now ∷ []) (flag_value guarded_too ∷ [])
spelled (command.LetVariable number text word) = said LetVariable (Numbered number ∷ EqualsGiven ∷ TextAt text.now word ∷ []) []
spelled (command.LetStep at text word) = said LetStep (step_value at ∷ EqualsGiven ∷ TextAt text.now word ∷ []) []
spelled (command.UnifyStep at choice) = said UnifyStep (step_value at ∷ []) (number_value choice ∷ [])
spelled command.UnifyAll = said UnifyAll [] []
spelled (command.InitializeStep at) = said InitializeStep (step_value at ∷ []) []
spelled command.InitializeAll = said InitializeAll [] []
spelled (command.DeleteStep at) = said DeleteStep (step_value at ∷ []) []
spelled command.DeleteAll = said DeleteAll [] []
spelled command.DeleteFloats = said DeleteFloats [] []
spelled (command.Improve at depth no_distinct) = said Improve (step_value at ∷ []) (number_value depth ∷ flag_value no_distinct ∷ [])
spelled (command.ImproveAll depth no_distinct) = said Improve (AllSteps ∷ []) (number_value depth ∷ flag_value no_distinct ∷ [])
spelled (command.Minimize pattern except forbid no_new_axioms may_grow guarded_too) =
    said Minimize (Bytes pattern.now ∷ [])
    (bytes_value except ∷ bytes_value forbid ∷ bytes_value no_new_axioms ∷ flag_value may_grow ∷ flag_value guarded_too ∷ [])
spelled command.Undo = said Undo [] []
spelled command.Redo = said Redo [] []
spelled (command.Save normal compressed guarded_too) =
    said Save [] (flag_value normal ∷ flag_value compressed ∷ flag_value guarded_too ∷ [])
