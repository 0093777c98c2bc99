use Rattle.std.proofs.Common.{◌≡◌, ◌<◌, ◌≤◌, ◌+◌, ◌-◌, length}
use Rattle.mm_chart.specs.Charts.{IsFilled}
use Rattle.mm_chart.proofs.filling.fill_row.Given as goal

abbrev pub invariant-loop-end : goal.invariant-loop-end
invariant-loop-end l = record {
  later : l.at < l.end;
  most : l.end ≤ length l.text + 1;
  long : length l.rows ≡ length l.text;
  filled : IsFilled l.rules l.text l.rows l.at l.end;
}

abbrev pub decreases-loop-end : goal.decreases-loop-end
decreases-loop-end l = length l.text + 1 - l.end
