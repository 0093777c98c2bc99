-- What comes of a theorem's proof, and which theorems are accepted.
use Rattle.std.specs.Prelude.{◌≡◌, ℕ, true, List, [], ◌∷◌, Some, Result, Ok, Err, length, if◌then◌else◌}
use Rattle.std.specs.Str.{bytes_eq}
use Rattle.mm_scope.specs.Contents.{is_read, stated_at, find_label, distinct_at}
use Rattle.mm_stated.specs.declared.statement.Kind.TheVariants.{Theorem}
use Rattle.mm_proof.specs.Decoding.{decoded}
use Rattle.mm_proof.specs.declared.fault.ProofFault.{ProofFault}
use Rattle.mm_proof.specs.declared.step.ProofStep.{ProofStep}
use Rattle.mm_stack.specs.Running.{run}
use Rattle.mm_stack.specs.declared.outcome.StackFault.TheVariants.{Proof, LeftOver, WrongResult}
use Rattle.mm_stack.specs.declared.outcome.Verdict.{Verdict}
use Rattle.mm_stack.specs.declared.outcome.Verdict.TheVariants as verdict

-- at the end the theorem's statement is the one entry
abbrev pub verdict_at : List ℕ → List (List ℕ) → Verdict
verdict_at goal [] = verdict.Faulty (LeftOver 0)
verdict_at goal (e ∷ []) = if bytes_eq e goal then verdict.Accepted else verdict.Faulty WrongResult
verdict_at goal (e ∷ f ∷ es) = verdict.Faulty (LeftOver (length (e ∷ f ∷ es)))

abbrev pub verdict_after : List ℕ → Result (List (List ℕ)) Verdict → Verdict
verdict_after goal (Ok stack) = verdict_at goal stack
verdict_after goal (Err v) = v

abbrev pub verdict_by : List ℕ → ℕ → Result (List ProofStep) ProofFault → Verdict
verdict_by bytes id (Ok steps) = verdict_after (stated_at bytes id).symbols (run bytes (distinct_at bytes id) steps)
verdict_by bytes id (Err e) = verdict.Faulty (Proof e)

-- what comes of the proof of a theorem
unfoldable pub verdict_of : List ℕ → ℕ → Verdict
verdict_of bytes id = verdict_by bytes id (decoded bytes id)

-- a database says that the label's theorem holds: it is read, and the theorem's proof is accepted
pub record Accepts (bytes label : List ℕ) : Type 0 where
  pub id : ℕ
  pub read : is_read bytes ≡ true
  pub found : find_label bytes label ≡ Some id
  pub theorem : (stated_at bytes id).kind ≡ Theorem
  pub accepted : verdict_of bytes id ≡ verdict.Accepted
