use Rattle.std.proofs.Common.{◌≡◌, length}
use Rattle.mm_chart.specs.Charts.{IsFilled}
use Rattle.mm_chart.proofs.Waiting.{waiting}
use Rattle.mm_chart.proofs.filling.fill_cell.Given as goal

abbrev pub invariant-loop-entry : goal.invariant-loop-entry
invariant-loop-entry l = record {
  long : length l.rows ≡ length l.text;
  filled : IsFilled l.rules l.text l.rows l.at l.to;
}

abbrev pub decreases-loop-entry : goal.decreases-loop-entry
decreases-loop-entry l = waiting l.rules l.rows l.at l.to
