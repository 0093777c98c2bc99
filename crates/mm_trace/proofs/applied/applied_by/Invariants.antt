use Rattle.std.proofs.Common.{◌≡◌, take}
use Rattle.mm_trace.specs.Uses.{applied_by}
use Rattle.mm_trace.proofs.applied.applied_by.Given as goal

abbrev pub invariant-loop-step : goal.invariant-loop-step
invariant-loop-step l = l.applied.items ≡ applied_by (take l.step-index l.steps)
