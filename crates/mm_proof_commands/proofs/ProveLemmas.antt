-- What PROVE answers.
use Rattle.std.proofs.Common.{◌≡◌, ◌≢◌, ◌≤◌, ℕ, Bool, true, List, length, Result, Ok, Err, refl, sym, ◌∙◌, ap, subst}
use Rattle.std.specs.Prelude.{IsErr, IsErrAnd}
use Rattle.mm_tree.proofs.Rooms.{same_error}
use Rattle.mm_plain.specs.Numbers.{labels_in, pending_in, unknowns_among}
use Rattle.mm_plain.specs.Shape.{Proof, size_of}
use Rattle.mm_edit.specs.Loading.{loading}
use Rattle.mm_edit.specs.declared.loading.LoadFault.{LoadFault}
use Rattle.mm_edit.specs.declared.loading.LoadFault.TheVariants as fault
use Rattle.mm_shell.specs.Answers.{Answer, Answers, given, or_refusal, does, refusal_takes, takes}
use Rattle.mm_shell.specs.OpenProofs.{ProofState, opened_of}
use Rattle.mm_shell.specs.declared.answer.Change.TheVariants.{Opens}
use Rattle.mm_shell.specs.declared.refusal.Refusal.{Refusal}
use Rattle.mm_shell.specs.declared.refusal.Refusal.TheVariants.{OutOfMemory}
use Rattle.mm_shell.specs.declared.report.Report.TheVariants.{Counts}
use Rattle.mm_shell.specs.declared.state.State.{State}
use Rattle.mm_proof_commands.specs.Commands.{load_refusal, opens, prove_theorem}

-- its answer, by what loading comes to
abbrev prove_by : State → List ℕ → ℕ → List ℕ → Result Proof LoadFault → Answer
prove_by s bytes id label r = given (or_refusal r (load_refusal label)) (opens bytes id s.undo_depth)

takes_by : (s : State) (bytes : List ℕ) (id : ℕ) (label : List ℕ) (r : Result Proof LoadFault) → takes (prove_by s bytes id label r) ≡ true
unfolding given
takes_by s bytes id label (Ok p) = refl
takes_by s bytes id label (Err fault.NoTree) = refl
takes_by s bytes id label (Err fault.TooManySteps) = refl
takes_by s bytes id label (Err fault.TooDeep) = refl
takes_by s bytes id label (Err fault.WorkSpent) = refl
takes_by s bytes id label (Err fault.TooLong) = refl
takes_by s bytes id label (Err fault.Memory) = refl

-- it takes memory, whatever comes of it
pub prove_takes : (s : State) (bytes : List ℕ) (id : ℕ) (label : List ℕ) → takes (prove_theorem s bytes id label) ≡ true
prove_takes s bytes id label = takes_by s bytes id label (loading bytes id s.settings)

-- a proof that isn't loaded is refused
pub load_refused : (s : State) (bytes : List ℕ) (id : ℕ) (label : List ℕ) (f : LoadFault) → (f ≢ fault.Memory → loading bytes id s.settings ≡ Err f) → Answers (prove_theorem s bytes id label) (Err (load_refusal label f))
unfolding given
load_refused s bytes id label fault.Memory h = prove_takes s bytes id label
load_refused s bytes id label f h = sym (ap (prove_by s bytes id label) (h (λ e. cc)))

-- one that is loaded is opened
pub load_opens : (s : State) (bytes : List ℕ) (id : ℕ) (label : List ℕ) (p : Proof) → loading bytes id s.settings ≡ Ok p → prove_theorem s bytes id label ≡ opens bytes id s.undo_depth p
unfolding given
load_opens s bytes id label p e = ap (prove_by s bytes id label) e

pub opened_so : (s : State) (bytes : List ℕ) (id : ℕ) (label : List ℕ) (p : Proof) (steps unknown pending : ℕ) (q : ProofState) → loading bytes id s.settings ≡ Ok p
    → steps ≡ size_of p.plain → unknown ≡ unknowns_among (labels_in p.plain) → pending ≡ length (pending_in bytes p.plain) → q ≡ opened_of id p s.undo_depth
    → does (Counts steps unknown pending) (Opens q) ≡ prove_theorem s bytes id label
opened_so s bytes id label p steps unknown pending q e size unknowns pendings is =
    (λ i. does (Counts (size i) (unknowns i) (pendings i)) (Opens (is i))) ∙ sym (load_opens s bytes id label p e)

-- there was no memory
pub prove_starved : (s : State) (bytes : List ℕ) (id : ℕ) (label : List ℕ) (r : Answer) → IsErrAnd r (λ x. x ≡ OutOfMemory) → IsErr r → Answers (prove_theorem s bytes id label) r
prove_starved s bytes id label r is err = subst (Answers (prove_theorem s bytes id label)) (sym (same_error r OutOfMemory is err)) (prove_takes s bytes id label)
