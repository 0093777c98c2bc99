use Rattle.std.proofs.Common.{map, take}
use Rattle.mm_chart.specs.Charts.{Best, assertion_at}
use Rattle.mm_chart.proofs.filling.by_use.Given as goal

abbrev pub invariant-loop-i : goal.invariant-loop-i
invariant-loop-i l = Best l.rules l.text l.rows l.at l.to (map (assertion_at l.rules) (take l.i l.able)) l.best
