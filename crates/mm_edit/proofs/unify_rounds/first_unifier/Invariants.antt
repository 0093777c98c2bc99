use Rattle.std.proofs.Common.{◌≡◌, drop}
use Rattle.mm_plain.specs.Shape.{steps_of}
use Rattle.mm_edit.specs.Quiet.{AreQuiet}
use Rattle.mm_edit.specs.Unifying.{first_unifier}
use Rattle.mm_edit.proofs.FirstLemmas.{at_number, firsts}
use Rattle.mm_edit.proofs.unify_rounds.first_unifier.Given as goal

abbrev pub invariant-loop-step : goal.invariant-loop-step
invariant-loop-step l = record {
  so_far : firsts (at_number l.db l.set l.tree.proof.plain) (drop l.step-index l.step-items) ≡ first_unifier l.db l.set (steps_of l.tree.proof.plain);
  quiet : AreQuiet l.db l.set l.tree.proof.plain l.quiet;
}
