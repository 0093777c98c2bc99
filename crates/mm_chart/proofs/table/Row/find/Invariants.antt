use Rattle.std.proofs.Common.{◌≡◌, drop}
use Rattle.mm_chart.specs.Charts.{entry_in}
use Rattle.mm_chart.proofs.table.Row.find.Given as goal

abbrev pub invariant-loop-entry : goal.invariant-loop-entry
invariant-loop-entry l = entry_in l.self l.code l.to ≡ entry_in (drop l.entry-index l.self) l.code l.to
