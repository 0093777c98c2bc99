-- What is judged of proofs after the proof of a theorem is replaced.
use Rattle.std.specs.Prelude.{◌≡◌, ◌≢◌, ℕ, List, Some, Ok}
use Rattle.mm_scope.specs.Contents.{find_label, stated_at}
use Rattle.mm_proof.specs.Decoding.{decoded, spelled}
use Rattle.mm_proof.specs.declared.step.ProofStep.{ProofStep}
use Rattle.mm_stack.specs.Accepting.{Accepts, verdict_by, verdict_of}
use Rattle.mm_splice.specs.Keeping.{proof_at}
use Rattle.mm_splice.specs.Splicing.{spliced}

-- Of each other theorem the proof spells what it spelled, and the same comes of it; a place in its fault is that where the
-- proof stands now. So it spells the same steps where it spells some, and the other theorems that are accepted are the same.
-- Of the theorem itself comes what the text spells in the old database.
pub record JudgesTheRest (bytes : List ℕ) (id : ℕ) (text : List ℕ) : Type 0 where
  pub decoded_kept : (j : ℕ) → j ≢ id → decoded (spliced bytes id text) j ≡ spelled bytes j (stated_at (spliced bytes id text) j).from (proof_at bytes j)
  pub steps_kept : (j : ℕ) (steps : List ProofStep) → j ≢ id → decoded bytes j ≡ Ok steps → decoded (spliced bytes id text) j ≡ Ok steps
  pub verdicts_kept : (j : ℕ) → j ≢ id → verdict_of (spliced bytes id text) j ≡ verdict_by bytes j (spelled bytes j (stated_at (spliced bytes id text) j).from (proof_at bytes j))
  pub same_verdicts : (j : ℕ) (steps : List ProofStep) → j ≢ id → decoded bytes j ≡ Ok steps → verdict_of (spliced bytes id text) j ≡ verdict_of bytes j
  pub accepts_kept : (label : List ℕ) → find_label bytes label ≢ Some id → Accepts bytes label → Accepts (spliced bytes id text) label
  pub accepts_back : (label : List ℕ) → find_label bytes label ≢ Some id → Accepts (spliced bytes id text) label → Accepts bytes label
  pub own_decoded : decoded (spliced bytes id text) id ≡ spelled bytes id (stated_at bytes id).from text
  pub own_verdict : verdict_of (spliced bytes id text) id ≡ verdict_by bytes id (spelled bytes id (stated_at bytes id).from text)
