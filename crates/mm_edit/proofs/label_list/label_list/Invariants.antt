use Rattle.std.proofs.Common.{◌≡◌, ◌+◌, ◌<◌, [], ◌∷◌, Some, All, length, map}
use Rattle.mm_scope.specs.Contents.{labels_of}
use Rattle.mm_proof.specs.Forests.{trees_in}
use Rattle.mm_proof.specs.Trees.{Tree}
use Rattle.mm_proof.proofs.Flattened.{Flattens}
use Rattle.mm_edit.specs.Labelling.{number_for}
use Rattle.mm_edit.proofs.label_list.label_list.Given as goal

abbrev pub invariant-loop-step : goal.invariant-loop-step
invariant-loop-step l = record {
  flat : (t : Tree) → trees_in l.db l.steps ≡ Some (t ∷ []) → Flattens l.db l.steps (map number_for l.labels.items) l.trees.items l.stack.items l.step-index;
  own : All (λ k. k < length (labels_of l.db) + 1) (map number_for l.labels.items);
}
