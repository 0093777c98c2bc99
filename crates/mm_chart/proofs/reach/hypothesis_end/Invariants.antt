use Rattle.std.proofs.Common.{◌<◌, ◌≤◌, ℕ, length, get_or}
use Rattle.mm_chart.specs.Charts.{EndsOutside, no_hypothesis}
use Rattle.mm_chart.proofs.reach.hypothesis_end.Given as goal

abbrev pub invariant-loop-number : goal.invariant-loop-number
invariant-loop-number l = record {
  later : l.last < l.end;
  most : l.end ≤ l.none;
  outside : (k : ℕ) → k < l.number → EndsOutside l.at l.last l.end (length (get_or l.rules.hypotheses k no_hypothesis).goal.1);
}
