use Rattle.std.proofs.Common.{◌≡◌, ◌≤◌, drop}
use Rattle.mm_unify.specs.Matching.{behind}
use Rattle.mm_unify.specs.Parts.{part}
use Rattle.mm_chart.proofs.search.end_of.Given as goal

abbrev pub invariant-loop-symbol : goal.invariant-loop-symbol
invariant-loop-symbol l = record {
  from : l.at ≤ l.end;
  within : l.end ≤ l.to;
  same : behind l.piece (part l.text l.at l.to) ≡ behind (drop l.symbol-index l.piece) (part l.text l.end l.to);
}
