use Rattle.std.proofs.Common.{length, ◌-◌, ◌≡◌, ◌≤◌, ◌<◌, ℕ, false}
use Rattle.mm_tokens.specs.Runs.{is_closing}
use Rattle.mm_tokens.proofs.runs.closing.Given as goal

abbrev pub invariant-loop-place : goal.invariant-loop-place
invariant-loop-place l = record {
  low : l.from ≤ l.at;
  within : l.at ≤ length l.bytes;
  none : (k : ℕ) → l.from ≤ k → k < l.at → is_closing l.bytes k ≡ false;
}

abbrev pub decreases-loop-place : goal.decreases-loop-place
decreases-loop-place l = length l.bytes - l.at
