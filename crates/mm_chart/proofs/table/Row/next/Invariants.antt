use Rattle.std.proofs.Common.{take}
use Rattle.mm_chart.specs.Charts.{IsNextOrNone}
use Rattle.mm_chart.proofs.table.Row.next.Given as goal

abbrev pub invariant-loop-entry : goal.invariant-loop-entry
invariant-loop-entry l = IsNextOrNone (take l.entry-index l.self) l.code l.last l.to l.next
