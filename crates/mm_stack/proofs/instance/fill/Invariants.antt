use Rattle.std.proofs.Common.{◌≡◌, ◌≤◌, length, take}
use Rattle.mm_stack.specs.Seats.{value_in}
use Rattle.mm_stack.specs.Substitution.{instance}
use Rattle.mm_stack.proofs.instance.fill.Given as goal
use Rattle.mm_scope.specs.Steps.{most_symbols}

abbrev pub invariant-loop-symbol : goal.invariant-loop-symbol
invariant-loop-symbol l = record {
  so_far : l.out.items ≡ instance (value_in l.values l.stack.stack) (take l.symbol-index l.symbols);
  fits : length l.out.items ≤ most_symbols;
}
