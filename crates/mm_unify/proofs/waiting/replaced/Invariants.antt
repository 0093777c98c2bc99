use Rattle.std.proofs.Common.{◌≡◌, take, ◌∷◌, []}
use Rattle.mm_subst.specs.Substitutions.{applied}
use Rattle.mm_unify.proofs.waiting.replaced.Given as goal

abbrev pub invariant-loop-symbol : goal.invariant-loop-symbol
invariant-loop-symbol l = l.out.items ≡ applied ((l.x, l.w) ∷ []) (take l.symbol-index l.s)
