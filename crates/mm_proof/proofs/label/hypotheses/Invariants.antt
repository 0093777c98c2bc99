use Rattle.std.proofs.Common.{◌≡◌, map, take}
use Rattle.mm_proof.specs.Labels.{hypothesis}
use Rattle.mm_proof.proofs.label.hypotheses.Given as goal

abbrev pub invariant-loop-id : goal.invariant-loop-id
invariant-loop-id l = l.kinds.items ≡ map hypothesis (take l.id-index l.ids)
