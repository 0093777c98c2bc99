-- What each edit of the open proof means, and what it comes to.
use Rattle.std.specs.Prelude.{◌≡◌, not, ℕ, Bool, true, false, List, [], ◌∷◌, Option, Result, Ok, Err}
use Rattle.mm_plain.specs.Shape.{Proof, size_of, step_at}
use Rattle.mm_unify.specs.declared.listing.Settings.{Settings}
use Rattle.mm_edit.specs.Assigning.{assigned}
use Rattle.mm_edit.specs.Counts.{unknown_count, pending_count}
use Rattle.mm_edit.specs.Deleting.{deleted, floats_deleted}
use Rattle.mm_edit.specs.Initializing.{all_initialized, initialized}
use Rattle.mm_edit.specs.Letting.{step_let, variable_let}
use Rattle.mm_edit.specs.Listed.{listed_at}
use Rattle.mm_edit.specs.Replacing.{replaced}
use Rattle.mm_edit.specs.Steps.{is_unknown}
use Rattle.mm_edit.specs.Unifying.{all_unified, step_unified}
use Rattle.mm_edit.specs.declared.edit_fault.EditFault.{EditFault}
use Rattle.mm_command.specs.declared.command.StepWord.{StepWord}
use Rattle.mm_command.specs.Meanings as meaning
use Rattle.mm_command.specs.Meanings.{Meaning}
use Rattle.mm_shell.specs.Answers.{Answer, unless, given, or_refusal, does, refusal_takes, seen, takes}
use Rattle.mm_shell.specs.Changes.{state_after}
use Rattle.mm_shell.specs.Finding.{is_forbidden, proof_of, statement_named}
use Rattle.mm_shell.specs.OpenProofs.{ProofState, after_edit}
use Rattle.mm_shell.specs.declared.state.State.{State}
use Rattle.mm_shell.specs.declared.answer.Change.TheVariants.{Opens}
use Rattle.mm_shell.specs.declared.refusal.Refusal.{Refusal}
use Rattle.mm_shell.specs.declared.refusal.Refusal.TheVariants.{Guarded, NothingChanged, OutOfMemory, NotBuilt}
use Rattle.mm_shell.specs.declared.report.Report.TheVariants.{Counts as Counted}
use Rattle.mm_edit_commands.specs.Improving.{improve_all, improve_step}
use Rattle.mm_edit_commands.specs.Refusals.{edit_refusal, unify_refusal, wrong_word}
use Rattle.mm_edit_commands.specs.Steps.{step_number}
use Rattle.mm_edit_commands.specs.Values.{is_empty, value_of}
use Rattle.mm_edit_commands.specs.declared.edits.Counts.{Counts}

-- ## ASSIGN and REPLACE

-- an edit by the statement with a label, where there is one that may be used
abbrev pub with_statement : List ℕ → List ℕ → Bool → (ℕ → Result Proof EditFault) → (EditFault → Refusal) → Result Proof Refusal
with_statement bytes label guarded_too edit refuse =
    given (statement_named bytes label) (λ id.
    unless ((is_forbidden guarded_too bytes id, Guarded label) ∷ [])
    (or_refusal (edit id) refuse))

abbrev pub assign : Settings → List ℕ → ℕ → Proof → StepWord → List ℕ → Bool → Result Proof Refusal
assign set bytes theorem p step label guarded_too =
    with_statement bytes label guarded_too (λ id. assigned bytes theorem set p (step_number p.plain step) id) (edit_refusal label (step_number p.plain step))

abbrev pub replace : Settings → List ℕ → ℕ → Proof → StepWord → List ℕ → Bool → Result Proof Refusal
replace set bytes theorem p step label guarded_too =
    with_statement bytes label guarded_too (λ id. replaced bytes theorem set p (step_number p.plain step) id) (edit_refusal label (step_number p.plain step))

-- ## LET

-- the text is the word with a number
abbrev pub let_variable : List ℕ → ℕ → Proof → ℕ → List ℕ → ℕ → Result Proof Refusal
let_variable bytes theorem p number text word =
    unless ((is_empty text, wrong_word word) ∷ [])
    (given (value_of bytes theorem p text) (λ value.
    or_refusal (variable_let bytes p number value) (edit_refusal [] number)))

abbrev pub let_step : Settings → List ℕ → ℕ → Proof → StepWord → List ℕ → ℕ → Result Proof Refusal
let_step set bytes theorem p step text word =
    unless ((is_empty text, wrong_word word) ∷ [])
    (given (value_of bytes theorem p text) (λ value.
    or_refusal (step_let bytes set p (step_number p.plain step) value) (edit_refusal [] (step_number p.plain step))))

-- ## UNIFY

abbrev pub unify_numbered : Settings → List ℕ → Proof → ℕ → Option ℕ → Result Proof Refusal
unify_numbered set bytes p k choice = or_refusal (step_unified bytes set p k choice) (unify_refusal bytes k (listed_at bytes set (step_at p.plain k)).found)

abbrev pub unify_step : Settings → List ℕ → Proof → StepWord → Option ℕ → Result Proof Refusal
unify_step set bytes p step choice = unify_numbered set bytes p (step_number p.plain step) choice

abbrev pub unify_all : Settings → List ℕ → Proof → Result Proof Refusal
unify_all set bytes p = or_refusal (all_unified bytes set p) (edit_refusal [] 0)

-- ## INITIALIZE

abbrev pub initialize_numbered : List ℕ → Proof → ℕ → Result Proof Refusal
initialize_numbered bytes p k = or_refusal (initialized bytes p k) (edit_refusal [] k)

abbrev pub initialize_step : List ℕ → Proof → StepWord → Result Proof Refusal
initialize_step bytes p step = initialize_numbered bytes p (step_number p.plain step)

abbrev pub initialize_all : List ℕ → Proof → Result Proof Refusal
initialize_all bytes p = or_refusal (all_initialized bytes p) (edit_refusal [] 0)

-- ## DELETE

abbrev pub delete_numbered : Proof → ℕ → Result Proof Refusal
delete_numbered p k = or_refusal (deleted p k) (edit_refusal [] k)

abbrev pub delete_step : Proof → StepWord → Result Proof Refusal
delete_step p step = delete_numbered p (step_number p.plain step)

-- of all steps the last one is made unknown
abbrev pub delete_all : Proof → Result Proof Refusal
delete_all p =
    unless ((is_unknown p.plain (size_of p.plain), NothingChanged) ∷ [])
    (delete_numbered p (size_of p.plain))

abbrev pub delete_floats : List ℕ → Proof → Result Proof Refusal
delete_floats bytes p = or_refusal (floats_deleted bytes p) (edit_refusal [] 0)

-- ## All of them

abbrev pub is_built : Meaning → Bool
is_built (meaning.Assign step label guarded_too) = true
is_built (meaning.Replace step label guarded_too) = true
is_built (meaning.LetVariable number text word) = true
is_built (meaning.LetStep step text word) = true
is_built (meaning.UnifyStep step choice) = true
is_built meaning.UnifyAll = true
is_built (meaning.InitializeStep step) = true
is_built meaning.InitializeAll = true
is_built (meaning.DeleteStep step) = true
is_built meaning.DeleteAll = true
is_built meaning.DeleteFloats = true
is_built (meaning.Improve step depth no_distinct) = true
is_built (meaning.ImproveAll depth no_distinct) = true
is_built _ = false

-- the proof of a theorem after an edit under the settings
unfoldable pub edit_of : Meaning → Settings → List ℕ → ℕ → Proof → Result Proof Refusal
edit_of (meaning.Assign step label guarded_too) set bytes theorem p = assign set bytes theorem p step label guarded_too
edit_of (meaning.Replace step label guarded_too) set bytes theorem p = replace set bytes theorem p step label guarded_too
edit_of (meaning.LetVariable number text word) set bytes theorem p = let_variable bytes theorem p number text word
edit_of (meaning.LetStep step text word) set bytes theorem p = let_step set bytes theorem p step text word
edit_of (meaning.UnifyStep step choice) set bytes theorem p = unify_step set bytes p step choice
edit_of meaning.UnifyAll set bytes theorem p = unify_all set bytes p
edit_of (meaning.InitializeStep step) set bytes theorem p = initialize_step bytes p step
edit_of meaning.InitializeAll set bytes theorem p = initialize_all bytes p
edit_of (meaning.DeleteStep step) set bytes theorem p = delete_step p step
edit_of meaning.DeleteAll set bytes theorem p = delete_all p
edit_of meaning.DeleteFloats set bytes theorem p = delete_floats bytes p
edit_of (meaning.Improve step depth no_distinct) set bytes theorem p = improve_step set bytes theorem p step depth no_distinct
edit_of (meaning.ImproveAll depth no_distinct) set bytes theorem p = improve_all set bytes theorem p depth no_distinct
edit_of _ set bytes theorem p = Err NotBuilt

-- what an edit comes to
pub record Edit : Type 0 where
  pub counts : Counts
  pub open_proof : ProofState

abbrev pub counts_of : List ℕ → Proof → Counts
counts_of bytes p = record { steps = size_of p.plain; unknown = unknown_count p.plain; pending = pending_count bytes p.plain }

-- the one ending of every edit: the steps are counted, and the proof before it is kept
abbrev pub edit_in : Meaning → Settings → List ℕ → ProofState → Result Edit Refusal
edit_in m set bytes p = given (edit_of m set bytes p.theorem p.proof) (λ q. Ok (record { counts = counts_of bytes q; open_proof = after_edit p q }))

-- the answer of an edit of the open proof
abbrev pub edits : State → (List ℕ → ProofState → Result Edit Refusal) → Answer
edits s edit =
    given (proof_of s) (λ here.
    given (edit here.0 here.1) (λ e.
    does (Counted e.counts.steps e.counts.unknown e.counts.pending) (Opens e.open_proof)))

unfoldable pub edit_answer : Meaning → State → Answer
edit_answer m s =
    unless ((not (is_built m), NotBuilt) ∷ [])
    (edits s (edit_in m s.settings))

-- ## What functions answer

-- whether there may be no memory for it
abbrev pub edit_takes : {A : Type 0} → Result A Refusal → Bool
edit_takes (Ok a) = true
edit_takes (Err r) = refusal_takes r

-- The proof of a tree is edited so. Where the edit is refused, it is as it was.
abbrev pub EditsTree : Result Proof Refusal → Proof → Result Unit Refusal → Proof → Type 0
EditsTree meaning before (Ok u) now = meaning ≡ Ok now
EditsTree meaning before (Err OutOfMemory) now = (edit_takes meaning ≡ true) × (now ≡ before)
EditsTree meaning before (Err r) now = (Err r ≡ meaning) × (now ≡ before)

-- The open proof is edited so.
abbrev pub EditsProof : Result Edit Refusal → ProofState → Result Counts Refusal → ProofState → Type 0
EditsProof meaning before (Ok counts) now = Ok (record { counts = counts; open_proof = now }) ≡ meaning
EditsProof meaning before (Err OutOfMemory) now = (edit_takes meaning ≡ true) × (now ≡ before)
EditsProof meaning before (Err r) now = (Err r ≡ meaning) × (now ≡ before)

-- The state is that after this answer.
abbrev pub EditsState : Answer → State → Result Counts Refusal → State → Type 0
EditsState a before (Ok counts) now = (seen (λ d. d.report) a ≡ Ok (Counted counts.steps counts.unknown counts.pending)) × (now ≡ state_after a before)
EditsState a before (Err OutOfMemory) now = (takes a ≡ true) × (now ≡ before)
EditsState a before (Err r) now = (Err r ≡ a) × (now ≡ before)
