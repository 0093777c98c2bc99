use Rattle.std.proofs.Common.{◌≡◌, ◌+◌, [], ◌∷◌, Some, length}
use Rattle.mm_scope.specs.Contents.{labels_of}
use Rattle.mm_proof.specs.Forests.{arity_of}
use Rattle.mm_proof.specs.Folding.{built}
use Rattle.mm_proof.specs.Trees.{Tree}
use Rattle.mm_proof.proofs.Going.{Going}
use Rattle.mm_proof.proofs.compacting.compact.Given as goal

abbrev pub invariant-loop-label : goal.invariant-loop-label
invariant-loop-label l = (t : Tree) → built (arity_of l.db) [] l.labels ≡ Some (t ∷ []) → Going (arity_of l.db) (length (labels_of l.db) + 1) l.labels l.table l.stack.items l.steps.items l.label-index
