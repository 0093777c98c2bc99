use Rattle.std.proofs.Common.{◌≡◌, ◌≤◌, length, drop}
use Rattle.mm_tokens.specs.Folding.{begins, folded}
use Rattle.mm_tokens.proofs.folding.begins.Given as goal

abbrev pub invariant-loop-wanted : goal.invariant-loop-wanted
invariant-loop-wanted l =
    (l.place ≤ length l.text) × (begins (drop l.wanted-index l.phrase) (folded (drop l.place l.text)) ≡ begins l.phrase (folded (drop l.at l.text)))
