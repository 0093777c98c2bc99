use Rattle.std.proofs.Common.{◌≡◌, ◌≤◌, ◌<◌, ◌+◌, ◌-◌}
use Rattle.std.specs.List.{range_with_len}
use Rattle.mm_plain.specs.Shape.{size_of, target_of}
use Rattle.mm_tree.specs.Versions.{BeginsAlike, KeepsMarks}
use Rattle.mm_improve.specs.Laying.{IsReady}
use Rattle.mm_edit.specs.Improving.{all_filled, filled_in_turn}
use Rattle.mm_edit.specs.Keeping.{IsProofOf}
use Rattle.mm_edit.specs.Proving.{found_by}
use Rattle.mm_edit.proofs.ImproveLemmas.{LooksOn, count_before}
use Rattle.mm_edit.proofs.improvement.fill_all.Given as goal

abbrev pub invariant-loop-step : goal.invariant-loop-step
invariant-loop-step g l = record {
  ready : IsReady l.db l.prover;
  search : l.prover.search ≡ l.initial.prover.search;
  valid : IsProofOf l.db l.initial.prover.search.at.0 (target_of l.initial.tree.proof.plain) l.tree.proof;
  so_far : filled_in_turn (found_by l.db l.initial.prover.search l.depth) l.initial.tree.proof.plain l.tree.proof (range_with_len l.step (l.size + 1 - l.step)) ≡ all_filled (found_by l.db l.initial.prover.search l.depth) l.initial.tree.proof;
  looks : LooksOn l.initial.tree.proof.plain l.tree.proof.plain l.step;
  counted : l.count ≡ count_before (found_by l.db l.initial.prover.search l.depth) l.initial.tree.proof.plain l.step;
  still : l.count ≡ 0 → l.tree ≡ l.initial.tree;
  few : l.count < l.step;
  size : l.size ≡ size_of l.initial.tree.proof.plain;
  first : 1 ≤ l.step;
  marks : KeepsMarks l.initial.tree.versions l.tree.versions;
  begun : BeginsAlike l.initial.tree.versions l.tree.versions;
}

abbrev pub decreases-loop-step : goal.decreases-loop-step
decreases-loop-step g l = l.size + 1 - l.step
