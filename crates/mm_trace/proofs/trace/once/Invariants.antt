use Rattle.std.proofs.Common.{◌≡◌, [], take}
use Rattle.mm_trace.specs.Traces.{once_behind}
use Rattle.mm_trace.proofs.trace.once.Given as goal

abbrev pub invariant-loop-number : goal.invariant-loop-number
invariant-loop-number l = l.gathered ≡ once_behind [] (take l.number-index l.numbers)
