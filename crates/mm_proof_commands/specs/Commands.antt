-- What each command on the open proof or on the session means: its refusals in order, and then what it does.
use Rattle.std.specs.Prelude.{◌&&◌, ◌==◌, not, nat_lt, length, is_some, ℕ, Bool, true, false, List, [], ◌∷◌, Option, Some, None, Result, Ok, Err, if◌then◌else◌, slice_get}
use Rattle.mm_plain.specs.Numbers.{labels_in, pending_in, unknowns_among}
use Rattle.mm_plain.specs.Shape.{Proof, size_of}
use Rattle.mm_plain.specs.Labels.{label_at}
use Rattle.mm_sound.specs.Complete.{has_unknown}
use Rattle.mm_save.specs.Clashes.{clashes_in}
use Rattle.mm_save.specs.Saving.{saved}
use Rattle.mm_save.specs.declared.clash.Clash.{Clash}
use Rattle.mm_save.specs.declared.form.Form.{Form}
use Rattle.mm_save.specs.declared.form.Form.TheVariants.{Normal, Compressed}
use Rattle.mm_edit.specs.Loading.{loading}
use Rattle.mm_edit.specs.declared.loading.LoadFault.{LoadFault}
use Rattle.mm_edit.specs.declared.loading.LoadFault.TheVariants as fault
use Rattle.mm_scope.specs.Contents.{distinct_at}
use Rattle.mm_scope.specs.Judged.{most_bytes}
use Rattle.mm_command.specs.Meanings as meaning
use Rattle.mm_command.specs.Meanings.{Meaning}
use Rattle.mm_shell.specs.Answers.{Answer, unless, given, found_or, none_of, or_refusal, does, reports, changes}
use Rattle.mm_shell.specs.Finding.{database_of, theorem_named, proof_of, is_closed}
use Rattle.mm_shell.specs.OpenProofs.{ProofState, opened_of}
use Rattle.mm_shell.specs.Verdicts.{symbol_text}
use Rattle.mm_shell.specs.declared.state.State.{State}
use Rattle.mm_shell.specs.declared.answer.Change.TheVariants.{Opens, Saves, Undoes, Redoes, Leaves, Ends}
use Rattle.mm_shell.specs.declared.refusal.Refusal.{Refusal}
use Rattle.mm_shell.specs.declared.refusal.Refusal.TheVariants.{Guarded, ProofOpen, NoProofOpen, NoTree, TooManySteps, TooDeep, WorkSpent, OutOfMemory, TooLong, NotUnified, NotDistinct, NothingToUndo, NothingToRedo, ProofNotSaved, NotWritten, NotBuilt}
use Rattle.mm_shell.specs.declared.report.Report.TheVariants.{Nothing, Counts, Saved, Steps, Undone, Redone}

-- ## PROVE

abbrev pub load_refusal : List ℕ → LoadFault → Refusal
load_refusal label fault.NoTree = NoTree label
load_refusal label fault.TooManySteps = TooManySteps
load_refusal label fault.TooDeep = TooDeep
load_refusal label fault.WorkSpent = WorkSpent
load_refusal label fault.TooLong = TooLong
load_refusal label fault.Memory = OutOfMemory

-- a proof is opened, and its steps are counted
abbrev pub opens : List ℕ → ℕ → ℕ → Proof → Answer
opens bytes id depth p = does (Counts (size_of p.plain) (unknowns_among (labels_in p.plain)) (length (pending_in bytes p.plain))) (Opens (opened_of id p depth))

abbrev pub prove_theorem : State → List ℕ → ℕ → List ℕ → Answer
prove_theorem s bytes id label = given (or_refusal (loading bytes id s.settings) (load_refusal label)) (opens bytes id s.undo_depth)

abbrev pub prove : State → List ℕ → Bool → Answer
prove s label guarded_too =
    unless ((is_some s.open_proof, ProofOpen) ∷ [])
    (given (database_of s) (λ bytes.
    given (theorem_named bytes label) (λ id.
    unless ((is_closed guarded_too bytes id, Guarded label) ∷ [])
    (prove_theorem s bytes id label))))

-- ## SHOW NEW_PROOF

abbrev pub show_proof : State → Bool → Answer
show_proof s only_unknown = given (proof_of s) (λ here. reports (Steps (here.0, here.1.proof.plain) only_unknown))

-- ## UNDO and REDO

abbrev pub undo : State → Answer
undo s = given (found_or s.open_proof NoProofOpen) (λ p. unless ((length p.past == 0, NothingToUndo) ∷ []) (does Undone Undoes))

abbrev pub redo : State → Answer
redo s = given (found_or s.open_proof NoProofOpen) (λ p. unless ((length p.future == 0, NothingToRedo) ∷ []) (does Redone Redoes))

-- ## SAVE NEW_PROOF

-- the form that is asked for: the normal one, unless the other is named
abbrev pub form_of : Bool → Form
form_of compressed = if compressed then Compressed else Normal

-- a step puts two variables together that must differ
abbrev pub not_distinct : List ℕ → Clash → Refusal
not_distinct bytes c = NotDistinct c.step (symbol_text bytes c.first.0) (symbol_text bytes c.second.0)

-- Whether some step is unknown. Where none is, none may be pending, and no two variables may clash.
abbrev pub unknown_or_ready : List ℕ → ProofState → Result Bool Refusal
unknown_or_ready bytes p =
    if has_unknown p.proof.plain then Ok true
    else none_of (slice_get (pending_in bytes p.proof.plain) 0) NotUnified
    (none_of (slice_get (clashes_in bytes (distinct_at bytes p.theorem) p.proof.plain) 0) (not_distinct bytes) (Ok false))

-- the database with the proof in a form
abbrev pub database_with : List ℕ → ProofState → Form → Result (List ℕ) Refusal
database_with bytes p form =
    unless ((nat_lt most_bytes (length (saved bytes p.theorem form p.proof.plain)), TooLong) ∷ [])
    (Ok (saved bytes p.theorem form p.proof.plain))

abbrev pub save_proof : List ℕ → ProofState → Form → Bool → Answer
save_proof bytes p form guarded_too =
    unless ((is_closed guarded_too bytes p.theorem, Guarded (label_at bytes p.theorem)) ∷ [])
    (given (unknown_or_ready bytes p) (λ some_unknown.
    given (database_with bytes p form) (λ new.
    does (Saved (label_at bytes p.theorem) some_unknown (size_of p.proof.plain))
    (Saves (record { database = new; theorem = record { 0 = p.theorem }; complete = not some_unknown })))))

abbrev pub save : State → Bool → Bool → Answer
save s compressed guarded_too = given (proof_of s) (λ here. save_proof here.0 here.1 (form_of compressed) guarded_too)

-- ## EXIT

-- with an open proof, or without one
abbrev pub exit_by : State → Bool → Option ProofState → Answer
exit_by s force (Some p) = unless ((p.changed && not force, ProofNotSaved) ∷ []) (changes Leaves)
exit_by s force None = unless ((s.unwritten && not force, NotWritten) ∷ []) (changes Ends)

abbrev pub exit : State → Bool → Answer
exit s force = exit_by s force s.open_proof

-- ## All of them

unfoldable pub proof_answer : Meaning → State → Answer
proof_answer meaning.Nothing s = reports Nothing
proof_answer (meaning.ShowNewProof only_unknown) s = show_proof s only_unknown
proof_answer (meaning.Prove label guarded_too) s = prove s label guarded_too
proof_answer meaning.Undo s = undo s
proof_answer meaning.Redo s = redo s
proof_answer (meaning.Save normal compressed guarded_too) s = save s compressed guarded_too
proof_answer (meaning.Exit force) s = exit s force
proof_answer _ s = Err NotBuilt
