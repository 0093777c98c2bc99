use Rattle.mm_proof.specs.Numbered.{number_in}
use Rattle.mm_proof.proofs.Using.{Listing}
use Rattle.mm_proof.proofs.listing.list_labels.Given as goal

abbrev pub invariant-loop-step : goal.invariant-loop-step
invariant-loop-step l = Listing l.fn.own (number_in l.initial.known) (number_in l.known) l.list.items l.steps l.step-index
