use Rattle.std.proofs.Common.{take}
use Rattle.mm_proof.specs.TreeNames.{Joins}
use Rattle.mm_proof.proofs.table.joined.Given as goal

abbrev pub invariant-loop-part : goal.invariant-loop-part
invariant-loop-part l = Joins l.initial.table l.table (take l.part-index l.children) l.label l.name
