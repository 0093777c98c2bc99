use Rattle.std.proofs.Common.{◌≡◌}
use Rattle.mm_plain.specs.Shape.{target_of}
use Rattle.mm_tree.specs.Versions.{BeginsAlike, KeepsMarks}
use Rattle.mm_edit.specs.Keeping.{IsProofOf}
use Rattle.mm_edit.specs.Quiet.{AreQuiet}
use Rattle.mm_edit.specs.Unifying.{unified_in}
use Rattle.mm_edit.proofs.unify_rounds.unify_in.Given as goal

abbrev pub invariant-loop-left : goal.invariant-loop-left
invariant-loop-left l = record {
  valid : IsProofOf l.db l.fn.at.0 (target_of l.initial.tree.proof.plain) l.tree.proof;
  so_far : unified_in l.left l.db l.set l.tree.proof ≡ unified_in l.initial.left l.db l.set l.initial.tree.proof;
  marks : KeepsMarks l.initial.tree.versions l.tree.versions;
  begun : BeginsAlike l.initial.tree.versions l.tree.versions;
  quiet : AreQuiet l.db l.set l.tree.proof.plain l.quiet;
}

abbrev pub decreases-loop-left : goal.decreases-loop-left
decreases-loop-left l = l.left
