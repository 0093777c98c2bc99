use Rattle.std.proofs.Common.{length, ◌-◌, ◌≡◌, ◌≤◌, ◌<◌, ℕ, false, slice_index}
use Rattle.mm_tokens.specs.Bytes.{is_graphic}
use Rattle.mm_tokens.proofs.runs.first_graphic.Given as goal

abbrev pub invariant-loop-place : goal.invariant-loop-place
invariant-loop-place l = record {
  low : l.at ≤ l.place;
  within : l.place ≤ length l.bytes;
  none : (k : ℕ) → l.at ≤ k → k < l.place → is_graphic (slice_index l.bytes k) ≡ false;
}

abbrev pub decreases-loop-place : goal.decreases-loop-place
decreases-loop-place l = length l.bytes - l.place
