-- Which label trees may be written for a theorem's proof.
use Rattle.std.specs.Prelude.{◌≡◌, ◌<◌, ℕ, zero, suc, true, false, nat_lt, List, [], ◌∷◌, Some, length, map, if◌then◌else◌}
use Rattle.std.specs.List.{AllByRecursion}
use Rattle.mm_scope.specs.Contents.{stated_at, find_label}
use Rattle.mm_stated.specs.Stated.{is_hypothesis}
use Rattle.mm_tokens.specs.Words.{is_bad_label}
use Rattle.mm_proof.specs.Encoding.{word_of, kind_of}
use Rattle.mm_proof.specs.Forests.{arity_of}
use Rattle.mm_proof.specs.Labels.{is_active}
use Rattle.mm_proof.specs.Steps.{untagged}
use Rattle.mm_proof.specs.Trees.{Tree, AreWhole, postorder, trees_of}
use Rattle.mm_proof.specs.declared.step.ProofStep.{ProofStep}

-- the statement n is an active hypothesis of a theorem, or an earlier assertion, and its label finds it
pub record Stands (bytes : List ℕ) (at n : ℕ) : Type 0 where
  pub found : find_label bytes (word_of bytes (suc n)) ≡ Some n
  pub fit : is_bad_label (word_of bytes (suc n)) ≡ false
  pub some : 0 < length (word_of bytes (suc n))
  pub stands : (if is_hypothesis (stated_at bytes n).kind then is_active bytes at n else nat_lt n at) ≡ true

-- `?`, or a label of such a statement, by its number
abbrev pub MayStand : List ℕ → ℕ → ℕ → Type 0
MayStand bytes at zero = Unit {0}
MayStand bytes at (suc n) = Stands bytes at n

-- each label takes as many trees as it has mandatory hypotheses, and may stand in the theorem's proof
pub record MayProve (bytes : List ℕ) (at : ℕ) (t : Tree) : Type 0 where
  pub whole : AreWhole (arity_of bytes) (trees_of (t ∷ []))
  pub labels : AllByRecursion (MayStand bytes at) (postorder (trees_of (t ∷ [])))

-- the steps of a normal proof
abbrev pub normal_steps : List ℕ → Tree → List ProofStep
normal_steps bytes t = map (λ l. untagged (kind_of bytes l)) (postorder (trees_of (t ∷ [])))
