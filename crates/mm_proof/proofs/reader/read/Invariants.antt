use Rattle.std.proofs.Common.{length}
use Rattle.mm_proof.proofs.Capped.{GoesOn}
use Rattle.mm_proof.proofs.reader.read.Given as goal

abbrev pub invariant-loop-letter : goal.invariant-loop-letter
invariant-loop-letter l = GoesOn l.kinds l.initial.letters l.letters l.reader

abbrev pub decreases-loop-letter : goal.decreases-loop-letter
decreases-loop-letter l = length l.letters
