use Rattle.std.proofs.Common.{◌≡◌, ◌≤◌, ◌-◌, true, length, drop}
use Rattle.mm_tokens.specs.Folding.{folded_after}
use Rattle.mm_tokens.proofs.folding.past_white.Given as goal

abbrev pub invariant-loop-place : goal.invariant-loop-place
invariant-loop-place l = (l.place ≤ length l.text) × (folded_after true (drop l.at l.text) ≡ folded_after true (drop l.place l.text))

abbrev pub decreases-loop-place : goal.decreases-loop-place
decreases-loop-place l = length l.text - l.place
