-- Answers that fit a state, which is all that the laws ask of a command; and the laws.
use Rattle.std.specs.Prelude.{◌≡◌, ◌<◌, ℕ, Bool, true, false, List, [], length, All, Option, None, Some, Ok, Err}
use Rattle.mm_shell.specs.Texts.{text_of as answer_text}
use Rattle.mm_base.specs.Files.{Map}
use Rattle.mm_scope.specs.Contents.{is_read, labels_of, stated_at}
use Rattle.mm_proof.specs.Decoding.{proof_of}
use Rattle.mm_splice.specs.Agreeing.{CanBeMade}
use Rattle.mm_splice.specs.Keeping.{KeepsTheRest}
use Rattle.mm_splice.specs.Splicing.{spliced}
use Rattle.mm_shell.specs.Actions.{Origin, Nowhere, File, Plan, answer_in, origin_in}
use Rattle.mm_shell.specs.Answers.{Answer}
use Rattle.mm_shell.specs.Changes.{state_after}
use Rattle.mm_shell.specs.OpenProofs.{ProofState}
use Rattle.mm_shell.specs.Saves.{Save, Holds, HoldsIn, last_complete, saved_by, with_save}
use Rattle.mm_shell.specs.Sound.{IsOpenIn, IsSound}
use Rattle.mm_shell.specs.declared.refusal.Refusal.{Refusal}
use Rattle.mm_shell.specs.declared.state.State.{State}
use Rattle.mm_shell.specs.declared.answer.Saving.{Saving}
use Rattle.mm_shell.specs.declared.answer.Done.{Done}
use Rattle.mm_shell.specs.declared.answer.Change.{Change}
use Rattle.mm_shell.specs.declared.answer.Change.TheVariants.{Loads, Opens, Saves, Ends}
use Rattle.mm_shell.specs.declared.report.Report.{Report}
use Rattle.mm_shell.specs.declared.report.Report.TheVariants.{Nothing, Verified}
use Rattle.mm_stated.specs.declared.statement.Kind.TheVariants.{Theorem}
use Rattle.mm_stack.specs.Accepting.{verdict_of}
use Rattle.mm_shell.specs.declared.checks.Check.{Check}

-- ## What fits

-- a database that comes where there is none
pub record IsLoading (origin : Origin) (s : State) (bytes : List ℕ) : Type 0 where
  pub none : s.database ≡ None
  pub closed : s.open_proof ≡ None
  pub read : is_read bytes ≡ true
  pub comes : origin ≡ File bytes

abbrev pub OpensIn : Option (List ℕ) → ProofState → Type 0
OpensIn None p = ⊥
OpensIn (Some bytes) p = IsOpenIn bytes p

-- a save in a database: another text in place of a theorem's proof, and the rest as it was
pub record IsSaving (bytes : List ℕ) (x : Saving) : Type 0 where
  pub is : x.database ≡ spliced bytes x.theorem.0 (proof_of x.database x.theorem.0)
  pub keeps : KeepsTheRest bytes x.theorem.0 (proof_of x.database x.theorem.0)
  pub made : CanBeMade bytes bytes (record { theorem = x.theorem.0; text = proof_of x.database x.theorem.0 })
  pub accepted : x.complete ≡ true → Holds x.database x.theorem.0

abbrev pub SavesIn : Option (List ℕ) → Saving → Type 0
SavesIn None x = ⊥
SavesIn (Some bytes) x = IsSaving bytes x

abbrev pub IsFit : Origin → State → Change → Type 0
IsFit origin s (Loads bytes) = IsLoading origin s bytes
IsFit origin s (Opens p) = OpensIn s.database p
IsFit origin s (Saves x) = SavesIn s.database x
IsFit origin s change = Unit {0}

-- what ends the session reports nothing
abbrev pub IsSilentEnd : Change → Report → Type 0
IsSilentEnd Ends report = report ≡ Nothing
IsSilentEnd change report = Unit {0}

-- what is told of the proof of a theorem of a database is what comes of it
pub record IsChecked (bytes : List ℕ) (check : Check) : Type 0 where
  pub own : check.theorem.0 < length (labels_of bytes)
  pub theorem : (stated_at bytes check.theorem.0).kind ≡ Theorem
  pub is : check.verdict ≡ verdict_of bytes check.theorem.0

-- the proofs that are told of are those of the database
pub record AreChecked (database : Option (List ℕ)) (bytes : List ℕ) (checks : List Check) : Type 0 where
  pub here : database ≡ Some bytes
  pub each : All (IsChecked bytes) checks

-- what is reported holds
abbrev pub Holding : State → Report → Type 0
Holding s (Verified bytes checks) = AreChecked s.database bytes checks
Holding s report = Unit {0}

unfoldable pub Fits : Origin → State → Answer → Type 0
Fits origin s (Ok done) = IsFit origin s done.change × IsSilentEnd done.change done.report × Holding s done.report
Fits origin s (Err refusal) = Unit {0}

-- a plan's answer fits, whatever the files have
abbrev pub PlanFits : State → Plan → Type 0
PlanFits s plan = (map : Map) → Fits (origin_in plan map) s (answer_in plan map)

-- ## The laws

abbrev pub FittingStaysSound : Type 0
FittingStaysSound = (origin : Origin) (s : State) (a : Answer) → IsSound s → Fits origin s a → IsSound (state_after a s)

abbrev pub RefusedStays : Type 0
RefusedStays = (s : State) (refusal : Refusal) → state_after (Err refusal) s ≡ s

-- Where there is a database, it is the same afterwards but for what is saved.
abbrev pub OnlySavesChange : Type 0
OnlySavesChange = (origin : Origin) (s : State) (a : Answer) (bytes : List ℕ) → Fits origin s a → s.database ≡ Some bytes → (state_after a s).database ≡ Some (with_save bytes (saved_by a))

-- Where there is none, one comes from its origin alone.
abbrev pub LoadsTheOrigin : Type 0
LoadsTheOrigin = (origin : Origin) (s : State) (a : Answer) (bytes : List ℕ) → Fits origin s a → s.database ≡ None → (state_after a s).database ≡ Some bytes → origin ≡ File bytes

-- Where a theorem whose last save was complete is accepted, it is so afterwards.
abbrev pub SavedTheoremsHold : Type 0
SavedTheoremsHold = (origin : Origin) (s : State) (a : Answer) (theorem : ℕ) (before : Bool) → IsSound s → Fits origin s a → (before ≡ true → HoldsIn s.database theorem)
    → last_complete theorem (saved_by a) before ≡ true → HoldsIn (state_after a s).database theorem

-- An answer that ends the session has no text.
abbrev pub EndsSilently : Type 0
EndsSilently = (origin : Origin) (s : State) (a : Answer) → Fits origin s a → s.ended ≡ false → (state_after a s).ended ≡ true → answer_text a ≡ []

-- What is reported holds.
abbrev pub ReportsHold : Type 0
ReportsHold = (origin : Origin) (s : State) (done : Done) → Fits origin s (Ok done) → Holding s done.report

-- What is saved can be made: a text that may stand as a proof, of a theorem, where there is room for it.
abbrev pub MadeIn : Option (List ℕ) → Option Save → Type 0
MadeIn (Some bytes) (Some save) = CanBeMade bytes bytes (record { theorem = save.theorem; text = save.text })
MadeIn database saved = Unit {0}

abbrev pub SavesCanBeMade : Type 0
SavesCanBeMade = (origin : Origin) (s : State) (a : Answer) → Fits origin s a → MadeIn s.database (saved_by a)
