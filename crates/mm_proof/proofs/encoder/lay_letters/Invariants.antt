use Rattle.std.proofs.Common.{◌≡◌, ◌++◌, ◌-◌, drop, length}
use Rattle.mm_proof.specs.Encoding.{laid_letters}
use Rattle.mm_proof.proofs.encoder.lay_letters.Given as goal

abbrev pub invariant-loop-place : goal.invariant-loop-place
invariant-loop-place l = l.text.items ++ laid_letters l.place (drop l.place l.letters) ≡ l.initial.text.items ++ laid_letters 0 l.letters

abbrev pub decreases-loop-place : goal.decreases-loop-place
decreases-loop-place l = length l.letters - l.place
