use Rattle.std.proofs.Common.{◌≡◌, ◌+◌, ◌≤◌, length}
use Rattle.mm_proof.specs.Numbers.{leading}
use Rattle.mm_proof.proofs.number.number_len.Given as goal

abbrev pub invariant-loop-quotient : goal.invariant-loop-quotient
invariant-loop-quotient l = record {
  count : l.count + length (leading l.quotient) ≡ 1 + length (leading l.initial.quotient);
  small : l.count + l.quotient ≤ 1 + l.initial.quotient;
}

abbrev pub decreases-loop-quotient : goal.decreases-loop-quotient
decreases-loop-quotient l = l.quotient
