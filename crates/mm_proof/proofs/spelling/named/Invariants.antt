use Rattle.std.proofs.Common.{◌≡◌, ◌<◌, ℕ, take, length, get_or, false}
use Rattle.mm_proof.specs.Spelling.{is_named}
use Rattle.mm_proof.proofs.spelling.named.Given as goal

abbrev pub invariant-loop-step : goal.invariant-loop-step
invariant-loop-step l = record {
  count : length l.named.items ≡ length l.steps;
  is : (k : ℕ) → k < length l.steps → get_or l.named.items k false ≡ is_named (take l.step-index l.steps) k;
}
