use Rattle.std.proofs.Common.{◌≡◌, drop}
use Rattle.mm_subst.specs.Substitutions.{value_at}
use Rattle.mm_subst.proofs.subst.value_among.Given as goal

abbrev pub invariant-loop-k : goal.invariant-loop-k
invariant-loop-k l = value_at (drop l.k-index l.pairs) l.key ≡ value_at l.pairs l.key
