use Rattle.std.proofs.Common.{◌≡◌, drop}
use Rattle.mm_chart.specs.Items.{are_parted}
use Rattle.mm_chart.proofs.fitting.are_parted.Given as goal

abbrev pub invariant-loop-symbol : goal.invariant-loop-symbol
invariant-loop-symbol l = are_parted l.groups l.one l.other ≡ are_parted l.groups (drop l.symbol-index l.one) l.other
