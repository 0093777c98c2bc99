use Rattle.mm_chart.proofs.Stated.{NoneStated}
use Rattle.mm_chart.proofs.filling.by_hypothesis.Given as goal

abbrev pub invariant-loop-number : goal.invariant-loop-number
invariant-loop-number l = NoneStated l.rules l.text l.rows l.at l.to l.number
