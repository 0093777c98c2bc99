use Rattle.std.proofs.Common.{◌≡◌, ◌≤◌, suc, length, All}
use Rattle.mm_chart.specs.Charts.{AreAble, IsFilled}
use Rattle.mm_chart.proofs.filling.chart.Given as goal

abbrev pub invariant-loop-at : goal.invariant-loop-at
invariant-loop-at l = record {
  able : All (λ a. AreAble l.rules a.symbol a.numbers.items) l.known.items;
  within : l.at ≤ length l.text;
  long : length l.rows ≡ length l.text;
  filled : IsFilled l.rules l.text l.rows l.at (suc (length l.text));
}

abbrev pub decreases-loop-at : goal.decreases-loop-at
decreases-loop-at l = l.at
