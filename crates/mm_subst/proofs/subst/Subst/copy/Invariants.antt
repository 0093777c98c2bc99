use Rattle.std.proofs.Common.{◌≡◌, take}
use Rattle.mm_subst.proofs.subst.Subst.copy.Given as goal

abbrev pub invariant-loop-k : goal.invariant-loop-k
invariant-loop-k l = l.out ≡ take l.k-index l.k-items
