use Rattle.mm_proof.specs.Numbered.{number_in}
use Rattle.mm_proof.proofs.Numbering.{Counts}
use Rattle.mm_proof.proofs.spelling.numbers.Given as goal

abbrev pub invariant-loop-step : goal.invariant-loop-step
invariant-loop-step l = Counts (number_in l.known) l.fn.count l.steps l.tags.items l.next l.out.items l.step-index
