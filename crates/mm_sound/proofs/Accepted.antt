-- What a valid and complete proof comes to.
use Rattle.std.proofs.Common.{◌≡◌, ◌<◌, ℕ, true, List, length, Result, Ok, ap, ◌∙◌, if◌then◌else◌}
use Rattle.mm_scope.specs.Contents.{is_read, stated_at, labels_of}
use Rattle.mm_stated.specs.declared.statement.Kind.TheVariants.{Theorem}
use Rattle.mm_subst.specs.Statements.{statement_of}
use Rattle.mm_plain.specs.Shape.{Proof}
use Rattle.mm_stack.specs.Accepting.{verdict_after, verdict_by, verdict_of, Accepts}
use Rattle.mm_proof.specs.Decoding.{proof_of, decoded}
use Rattle.mm_proof.specs.declared.fault.ProofFault.{ProofFault}
use Rattle.mm_proof.specs.declared.step.ProofStep.{ProofStep}
use Rattle.mm_stack.specs.declared.outcome.StackFault.TheVariants.{WrongResult}
use Rattle.mm_stack.specs.declared.outcome.Verdict.TheVariants.{Accepted, Faulty}
use Rattle.mm_plain.specs.Labels.{label_at}
use Rattle.mm_plain.proofs.Labels.{has_label}
use Rattle.mm_sound.specs.Complete.{spelled}
use Rattle.mm_sound.specs.Proves.{Proves}
use Rattle.mm_sound.specs.Written.{texts_in, written}
use Rattle.mm_sound.proofs.Popped.{bytes_eq-itself}
use Rattle.mm_sound.proofs.Runs.{theorem_runs}
use Rattle.mm_sound.proofs.Spelled.{written_spells}

-- by any decoding that gives its steps
pub accepted_by : (bytes : List ℕ) (at : ℕ) (p : Proof) (read : Result (List ProofStep) ProofFault) → Proves bytes at p → read ≡ Ok (spelled bytes p.plain) → verdict_by bytes at read ≡ Accepted
accepted_by bytes at p read v e =
    let goal : List ℕ = (stated_at bytes at).symbols in
    ap (verdict_by bytes at) e ∙ ap (verdict_after goal) (theorem_runs bytes at p v)
    ∙ ap (λ b. if b then Accepted else Faulty WrongResult) (bytes_eq-itself goal)

-- and by the theorem's own text
pub accepted : (bytes : List ℕ) (at : ℕ) (p : Proof) → Proves bytes at p → decoded bytes at ≡ Ok (spelled bytes p.plain) → verdict_of bytes at ≡ Accepted
unfolding verdict_of
accepted bytes at p v e = accepted_by bytes at p (decoded bytes at) v e

-- where the text is what is written for the proof
pub written_accepted : (bytes : List ℕ) (at : ℕ) (p : Proof) → at < length (labels_of bytes) → Proves bytes at p → texts_in (proof_of bytes at) ≡ written bytes p.plain → verdict_of bytes at ≡ Accepted
written_accepted bytes at p own v e = accepted bytes at p v (written_spells bytes at (statement_of bytes at) p own v.valid e)

-- and the database says that the theorem holds
pub written_accepts : (bytes : List ℕ) (at : ℕ) (p : Proof) → is_read bytes ≡ true → at < length (labels_of bytes) → (stated_at bytes at).kind ≡ Theorem → Proves bytes at p
    → texts_in (proof_of bytes at) ≡ written bytes p.plain → Accepts bytes (label_at bytes at)
written_accepts bytes at p read own is v e = record {
  id = at;
  read = read;
  found = (has_label bytes at own).found;
  theorem = is;
  accepted = written_accepted bytes at p own v e;
}
