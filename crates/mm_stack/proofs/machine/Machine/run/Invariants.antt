use Rattle.std.proofs.Common.{◌≡◌, drop}
use Rattle.mm_stack.specs.Running.{run_from, start}
use Rattle.mm_stack.proofs.machine.Machine.run.Given as goal

abbrev pub invariant-loop-step : goal.invariant-loop-step
invariant-loop-step l = run_from l.db l.parted l.self.stack (drop l.step-index l.steps) ≡ run_from l.db l.parted start l.steps
