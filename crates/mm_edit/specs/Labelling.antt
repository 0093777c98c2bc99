-- The labels of the tree that the steps of a proof fold to, in postorder.
use Rattle.std.specs.Prelude.{◌≡◌, ℕ, zero, suc, List, [], ◌∷◌, map, Option, None, Some, Result, Ok, Err}
use Rattle.mm_proof.specs.Compacting.{alone}
use Rattle.mm_proof.specs.Decoding.{decoded}
use Rattle.mm_proof.specs.Encodes.{OfTree}
use Rattle.mm_proof.specs.Folding.{onward}
use Rattle.mm_proof.specs.Forests.{trees_in}
use Rattle.mm_proof.specs.Trees.{Tree, postorder, trees_of}
use Rattle.mm_proof.specs.declared.fault.ProofFault.{ProofFault}
use Rattle.mm_proof.specs.declared.step.ProofStep.{ProofStep}

-- the number of a label in a label tree; 0 stands for `?`
abbrev pub number_for : Option ℕ → ℕ
number_for None = 0
number_for (Some l) = suc l

abbrev pub label_for : ℕ → Option ℕ
label_for zero = None
label_for (suc l) = Some l

-- the labels of a label tree in postorder; None for `?`
abbrev pub labels_for : Tree → List (Option ℕ)
labels_for t = map label_for (postorder (trees_of (t ∷ [])))

-- these are the labels of the one tree that steps fold to, if they fold to one
abbrev pub AreLabels : List ℕ → List ProofStep → List (Option ℕ) → Type 0
AreLabels bytes steps labels = OfTree bytes steps (λ t. labels ≡ labels_for t)

abbrev pub tree_read : List ℕ → Result (List ProofStep) ProofFault → Option Tree
tree_read bytes (Ok steps) = onward (trees_in bytes steps) alone
tree_read bytes (Err f) = None

-- The label tree that a theorem's proof folds to, in which a back reference is a copy; None where its text doesn't spell
-- steps, or they don't fold to one tree.
abbrev pub label_tree_at : List ℕ → ℕ → Option Tree
label_tree_at bytes at = tree_read bytes (decoded bytes at)
