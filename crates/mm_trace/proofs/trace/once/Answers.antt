use Rattle.mm_trace.specs.Traces.{once_behind}
use Rattle.mm_trace.proofs.trace.once.Goals as goal

pub loop-number-init : goal.loop-number-init
unfolding once_behind
loop-number-init c = c.clear.ensures
