use Rattle.std.proofs.Common.{◌≡◌, ◌≤◌, ◌+◌, vec_len, vec_capacity, ◌-◌}
use Rattle.mm_base.specs.Recorder.{HasHeard, HasFailed, logs_after, begun_before, begun_after}
use Rattle.mm_base.proofs.RecorderLemmas.{Passed}
use Rattle.mm_base.proofs.recorders.call_each.Given as goal

abbrev pub invariant-loop-i : goal.invariant-loop-i
invariant-loop-i g l = record {
  room : vec_len l.live + vec_len l.lost ≤ vec_capacity l.lost;
  passed : Passed (HasHeard (λ b. (goal.Recorder-dyn g (b.vtable, b.value)).tells b.value) (λ b. (goal.Recorder-dyn g (b.vtable, b.value)).logs b.value) (λ b. (goal.Recorder-dyn g (b.vtable, b.value)).faults b.value) (logs_after l.call))
      (HasFailed (λ b. (goal.Recorder-dyn g (b.vtable, b.value)).tells b.value) (λ b. (goal.Recorder-dyn g (b.vtable, b.value)).logs b.value) (λ b. (goal.Recorder-dyn g (b.vtable, b.value)).faults b.value) (logs_after l.call))
      (λ b. (goal.Recorder-dyn g (b.vtable, b.value)).is_begun b.value ≡ begun_before l.call)
      (λ b. (goal.Recorder-dyn g (b.vtable, b.value)).is_begun b.value ≡ begun_after l.call)
      l.initial.live.items l.live.items l.initial.lost.items l.lost.items l.i;
}

abbrev pub decreases-loop-i : goal.decreases-loop-i
decreases-loop-i g l = vec_len l.live - l.i
