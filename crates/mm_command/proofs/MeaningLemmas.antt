-- What a line says has one meaning, and each command's spelling means that command.
use Rattle.std.proofs.Common.{◌≡◌, ℕ, Bool, true, false, List, Option, None, Some, Result, Ok, is_some, Bor, refl, sym, ◌∙◌, ap}
use Rattle.mm_command.specs.declared.fault.LineFault.{LineFault}
use Rattle.mm_command.specs.declared.command.StepWord.{StepWord}
use Rattle.mm_command.specs.declared.command.StepWord.TheVariants as step
use Rattle.mm_command.specs.declared.command.Command.{Command}
use Rattle.mm_command.specs.declared.command.Command.TheVariants as command
use Rattle.mm_command.specs.Grammar.{Said}
use Rattle.mm_command.specs.Spelled.{spelled, step_value, switch_value, flag_value, number_value, bytes_value}
use Rattle.mm_command.specs.Meanings.{Meaning, meaning_of, bytes_of}
use Rattle.mm_command.specs.Heard.{step_in, switch_in, number_in, bytes_in, heard, meaning_in}

step_back : (at : StepWord) → step_in (step_value at) ≡ at
step_back (step.Number n) = refl
step_back step.First = refl
step_back step.Last = refl

switch_back : (on : Bool) → switch_in (switch_value on) ≡ on
switch_back true = refl
switch_back false = refl

flag_back : (b : Bool) → is_some (flag_value b) ≡ b
flag_back true = refl
flag_back false = refl

number_back : (n : Option ℕ) → number_in (number_value n) ≡ n
number_back None = refl
number_back (Some n) = refl

bytes_back : (word : Option (Bor (List ℕ))) → bytes_in (bytes_value word) ≡ bytes_of word
bytes_back None = refl
bytes_back (Some w) = refl

pub meaning_back : (c : Command) → meaning_in (spelled c) ≡ Some (meaning_of c)
unfolding heard
meaning_back command.Nothing = refl
meaning_back (command.Read file) = refl
meaning_back (command.VerifyProof pattern) = refl
meaning_back (command.VerifyMarkup pattern) = refl
meaning_back (command.ShowStatement label) = refl
meaning_back (command.ShowPage label) = refl
meaning_back (command.ShowTraceBack label axioms) = rw (flag_back axioms) refl
meaning_back (command.ShowUsage label recursive) = rw (flag_back recursive) refl
meaning_back (command.ShowNewProof unknown) = rw (flag_back unknown) refl
meaning_back (command.SetUndo n) = refl
meaning_back (command.SetTrials n) = refl
meaning_back (command.SetBrackets on) = rw (switch_back on) refl
meaning_back (command.SetEmpty on) = rw (switch_back on) refl
meaning_back (command.WriteSource file) = refl
meaning_back (command.OpenLog file) = refl
meaning_back command.CloseLog = refl
meaning_back (command.Prove label guarded_too) = rw (flag_back guarded_too) refl
meaning_back (command.Demo n) = refl
meaning_back (command.Exit force) = rw (flag_back force) refl
meaning_back (command.Assign at label guarded_too) = rw (step_back at, flag_back guarded_too) refl
meaning_back (command.Replace at label guarded_too) = rw (step_back at, flag_back guarded_too) refl
meaning_back (command.LetVariable number text word) = refl
meaning_back (command.LetStep at text word) = rw (step_back at) refl
meaning_back (command.UnifyStep at choice) = rw (step_back at, number_back choice) refl
meaning_back command.UnifyAll = refl
meaning_back (command.InitializeStep at) = rw (step_back at) refl
meaning_back command.InitializeAll = refl
meaning_back (command.DeleteStep at) = rw (step_back at) refl
meaning_back command.DeleteAll = refl
meaning_back command.DeleteFloats = refl
meaning_back (command.Improve (step.Number n) depth no_distinct) = rw (number_back depth, flag_back no_distinct) refl
meaning_back (command.Improve step.First depth no_distinct) = rw (number_back depth, flag_back no_distinct) refl
meaning_back (command.Improve step.Last depth no_distinct) = rw (number_back depth, flag_back no_distinct) refl
meaning_back (command.ImproveAll depth no_distinct) = rw (number_back depth, flag_back no_distinct) refl
meaning_back (command.Minimize pattern except forbid no_new_axioms may_grow guarded_too) = rw (bytes_back except, bytes_back forbid, bytes_back no_new_axioms, flag_back may_grow, flag_back guarded_too) refl
meaning_back command.Undo = refl
meaning_back command.Redo = refl
meaning_back (command.Save normal compressed guarded_too) = rw (flag_back normal, flag_back compressed, flag_back guarded_too) refl

same_some : (a b : Meaning) → Some a ≡ Some b → a ≡ b
same_some a b e = cc

pub one_meaning : (said : Result Said LineFault) (c d : Command) → said ≡ Ok (spelled c) → said ≡ Ok (spelled d) → meaning_of c ≡ meaning_of d
one_meaning said c d p q =
    let same : spelled c ≡ spelled d = cc in
    same_some _ _ (sym (meaning_back c) ∙ ap meaning_in same ∙ meaning_back d)
