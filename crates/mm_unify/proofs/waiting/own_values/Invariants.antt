use Rattle.std.proofs.Common.{◌≡◌, ◌∷◌, [], take, map}
use Rattle.mm_subst.specs.declared.symbol.WSym.TheVariants.{Work}
use Rattle.mm_unify.proofs.waiting.own_values.Given as goal

abbrev pub invariant-loop-n : goal.invariant-loop-n
invariant-loop-n l = l.each.items ≡ map (λ n. (Work n, Work n ∷ [])) (take l.n-index l.numbers)
