use Rattle.std.proofs.Common.{◌≡◌, ◌≤◌, ◌+◌, ◌-◌}
use Rattle.std.specs.List.{range_with_len}
use Rattle.mm_plain.specs.Shape.{size_of, target_of}
use Rattle.mm_edit.specs.Keeping.{IsProofOf}
use Rattle.mm_edit.specs.Loading.{all_visited, visited}
use Rattle.mm_edit.proofs.loading.visit_all.Given as goal

abbrev pub invariant-loop-step : goal.invariant-loop-step
invariant-loop-step l = record {
  valid : IsProofOf l.db l.fn.at.0 (target_of l.initial.tree.proof.plain) l.tree.proof;
  so_far : visited l.db l.set l.tree.proof (range_with_len l.step (l.last + 1 - l.step)) ≡ all_visited l.db l.set l.initial.tree.proof;
  size : size_of l.tree.proof.plain ≡ l.last;
  first : 1 ≤ l.step;
}

abbrev pub decreases-loop-step : goal.decreases-loop-step
decreases-loop-step l = l.last + 1 - l.step
