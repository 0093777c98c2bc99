use Rattle.std.proofs.Common.{◌≡◌, ◌≤◌, take, length}
use Rattle.std.specs.List.{All}
use Rattle.mm_subst.specs.Applied.{most_symbols}
use Rattle.mm_subst.specs.Substitutions.{with_values}
use Rattle.mm_subst.proofs.values.apply_to_values.Given as goal

abbrev pub invariant-loop-key : goal.invariant-loop-key
invariant-loop-key l = record {
  so_far : l.out ≡ with_values l.theta (take l.key-index l.key-items);
  fit : All (λ p. length p.1 ≤ most_symbols) l.out;
}
