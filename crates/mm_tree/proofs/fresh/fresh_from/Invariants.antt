use Rattle.std.proofs.Common.{◌≡◌, ◌+◌, take}
use Rattle.mm_plain.specs.Drawing.{fresh_from}
use Rattle.mm_tree.proofs.fresh.fresh_from.Given as goal

abbrev pub invariant-loop-variable : goal.invariant-loop-variable
invariant-loop-variable l = record {
  so_far : l.sigma ≡ take l.variable-index (fresh_from l.first l.variables);
  counted : l.number ≡ l.first + l.variable-index;
}
