use Rattle.std.proofs.Common.{◌<◌, ℕ, get_or}
use Rattle.mm_chart.specs.Charts.{Nowhere, no_assertion}
use Rattle.mm_chart.proofs.reach.use_end.Given as goal

abbrev pub invariant-loop-i : goal.invariant-loop-i
invariant-loop-i l = record {
  later : l.last < l.end;
  nowhere : (k : ℕ) → k < l.i → Nowhere l.text l.rows (get_or l.rules.assertions (get_or l.able k 0) no_assertion).items l.at l.last l.end;
}
