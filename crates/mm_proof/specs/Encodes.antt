-- What the encoders answer.
use Rattle.std.specs.Prelude.{◌≡◌, ℕ, List, [], ◌∷◌, Some}
use Rattle.std.specs.List.{flat_map}
use Rattle.mm_proof.specs.Trees.{Tree, postorder, trees_of}
use Rattle.mm_proof.specs.Forests.{trees_in}
use Rattle.mm_proof.specs.Numbered.{spell}
use Rattle.mm_proof.specs.Encoding.{listed_labels, letters_for}
use Rattle.mm_proof.specs.declared.step.ProofStep.{ProofStep}
use Rattle.mm_proof.specs.declared.encoder.Spelled.{Spelled}

-- what holds of the one tree that steps fold to, if they fold to one
abbrev pub OfTree : List ℕ → List ProofStep → (Tree → Type 0) → Type 0
OfTree bytes steps P = (t : Tree) → trees_in bytes steps ≡ Some (t ∷ []) → P t

-- the labels of the one tree in postorder
abbrev pub IsFlat : List ℕ → List ProofStep → List ℕ → Type 0
IsFlat bytes steps labels = OfTree bytes steps (λ t. labels ≡ postorder (trees_of (t ∷ [])))

-- the list and the spelled steps of a tree
pub record Spells (bytes : List ℕ) (at : ℕ) (t : Tree) (s : Spelled) : Type 0 where
  pub list : s.list.items ≡ listed_labels bytes at t
  pub letters : flat_map spell s.steps.items ≡ letters_for bytes at t
