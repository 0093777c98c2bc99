-- What a saved proof is read as.
use Rattle.std.specs.Prelude.{◌≡◌, ℕ, List, [], ◌∷◌, Some, Ok}
use Rattle.mm_proof.specs.Decoding.{decoded}
use Rattle.mm_proof.specs.Forests.{trees_in}
use Rattle.mm_proof.specs.Trees.{Tree}
use Rattle.mm_proof.specs.declared.step.ProofStep.{ProofStep}

-- the proof of a theorem of a new database spells steps, which fold to a label tree by the statements of the old one
pub record SpellsTree (bytes new : List ℕ) (at : ℕ) (t : Tree) : Type 0 where
  pub steps : List ProofStep
  pub spelled : decoded new at ≡ Ok steps
  pub folds : trees_in bytes steps ≡ Some (t ∷ [])
