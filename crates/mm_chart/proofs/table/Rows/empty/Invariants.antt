use Rattle.std.proofs.Common.{◌≡◌, replicate, []}
use Rattle.mm_chart.proofs.table.Rows.empty.Given as goal

abbrev pub invariant-loop : goal.invariant-loop
invariant-loop l = l.rows.items ≡ replicate l.counter []
