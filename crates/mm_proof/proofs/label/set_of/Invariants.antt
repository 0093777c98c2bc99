use Rattle.std.proofs.Common.{take}
use Rattle.mm_proof.specs.Readers.{HasAll}
use Rattle.mm_proof.proofs.label.set_of.Given as goal

abbrev pub invariant-loop-id : goal.invariant-loop-id
invariant-loop-id l = HasAll l.set (take l.id-index l.ids)
