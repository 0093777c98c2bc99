use Rattle.std.proofs.Common.{◌≡◌, ℕ, ◌-◌, ◌≤◌, true, false}
use Rattle.mm_plain.specs.Shape.{step_at}
use Rattle.mm_edit.specs.Quiet.{has_key_at, is_quiet}
use Rattle.mm_edit.proofs.quiet.Quiet.forget.Given as goal

abbrev pub invariant-loop-done : goal.invariant-loop-done
invariant-loop-done l = record {
  fewer : (k : ℕ) → is_quiet l.self k ≡ true → is_quiet l.initial.self k ≡ true;
  same : (k : ℕ) → 1 ≤ k → k ≤ l.done → is_quiet l.self k ≡ true → has_key_at l.db l.theta (step_at l.tree.proof.plain k) ≡ false;
}

abbrev pub decreases-loop-done : goal.decreases-loop-done
decreases-loop-done l = l.size - l.done
