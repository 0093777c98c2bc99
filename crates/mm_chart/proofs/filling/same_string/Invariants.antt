use Rattle.std.proofs.Common.{◌≡◌, drop}
use Rattle.mm_chart.specs.Items.{same_string}
use Rattle.mm_chart.proofs.filling.same_string.Given as goal

abbrev pub invariant-loop-i : goal.invariant-loop-i
invariant-loop-i l = same_string l.one l.other ≡ same_string (drop l.i l.one) (drop l.i l.other)
