use Rattle.mm_proof.proofs.Shaped.{Shaped}
use Rattle.mm_proof.proofs.sizing.shape_of.Given as goal

abbrev pub invariant-loop-step : goal.invariant-loop-step
invariant-loop-step l = Shaped l.db l.steps l.trees.items l.stack.items l.step-index
