use Rattle.std.proofs.Common.{◌≡◌, ◌++◌}
use Rattle.mm_unify.proofs.found.substitution.Given as goal

abbrev pub invariant-loop-value : goal.invariant-loop-value
invariant-loop-value l = l.out ++ l.value-iterator.rest.items ≡ l.fn.values
