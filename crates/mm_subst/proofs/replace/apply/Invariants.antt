use Rattle.std.proofs.Common.{◌≡◌, ◌≤◌, length, take}
use Rattle.mm_subst.specs.Substitutions.{applied}
use Rattle.mm_subst.proofs.replace.apply.Given as goal
use Rattle.mm_scope.specs.Steps.{most_symbols}

abbrev pub invariant-loop-symbol : goal.invariant-loop-symbol
invariant-loop-symbol l = record {
  so_far : l.out.items ≡ applied l.theta (take l.symbol-index l.symbol-items);
  fits : length l.out.items ≤ most_symbols;
}
