use Rattle.std.proofs.Common.{◌≡◌, drop}
use Rattle.mm_proof.specs.Parts.{knows_all}
use Rattle.mm_proof.proofs.compacting.is_known.Given as goal

abbrev pub invariant-loop-part : goal.invariant-loop-part
invariant-loop-part l = knows_all l.label (drop l.part-index l.children) ≡ knows_all l.label l.children
