use Rattle.std.proofs.Common.{◌≡◌}
use Rattle.mm_unify.proofs.found.substitutions.Given as goal

abbrev pub invariant-loop-values : goal.invariant-loop-values
invariant-loop-values l = l.out.items ≡ l.yielded
