use Rattle.std.proofs.Common.{◌≡◌, drop}
use Rattle.mm_tokens.specs.Folding.{holds, folded}
use Rattle.mm_tokens.proofs.folding.holds.Given as goal

abbrev pub invariant-loop-place : goal.invariant-loop-place
invariant-loop-place l = holds l.phrase (folded (drop l.place l.text)) ≡ holds l.phrase (folded l.text)
