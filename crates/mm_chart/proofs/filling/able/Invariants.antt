use Rattle.std.proofs.Common.{ℕ, ◌<◌, length, get_or}
use Rattle.mm_chart.proofs.Stated.{AbleYet}
use Rattle.mm_chart.proofs.filling.able.Given as goal

abbrev pub invariant-loop-number : goal.invariant-loop-number
invariant-loop-number l = record {
  are : AbleYet l.rules l.symbol l.number l.numbers.items;
  within : (k : ℕ) → k < length l.numbers.items → get_or l.numbers.items k 0 < length l.rules.assertions;
}
