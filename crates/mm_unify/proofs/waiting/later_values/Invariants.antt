use Rattle.std.proofs.Common.{◌≡◌, take, ◌∷◌, []}
use Rattle.mm_subst.specs.Substitutions.{with_values}
use Rattle.mm_unify.proofs.waiting.later_values.Given as goal

abbrev pub invariant-loop-value : goal.invariant-loop-value
invariant-loop-value l = l.each.items ≡ with_values ((l.x, l.w) ∷ []) (take l.value-index l.values)
