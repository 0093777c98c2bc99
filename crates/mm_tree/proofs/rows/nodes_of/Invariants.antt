use Rattle.std.proofs.Common.{◌≤◌, ◌+◌, All, length}
use Rattle.mm_plain.specs.Numbers.{IsOwnLabel}
use Rattle.mm_tree.proofs.RowLemmas.{Stands}
use Rattle.mm_tree.proofs.rows.nodes_of.Given as goal

abbrev pub invariant-loop-row : goal.invariant-loop-row
invariant-loop-row g l = record {
  stands : Stands l.db l.fn.rows.items l.left.items l.nodes.items;
  own : All (λ r. IsOwnLabel l.db r.label) l.left.items;
  counted : l.steps + length l.left.items ≤ l.fn.steps + length l.fn.rows.items;
}

abbrev pub decreases-loop-row : goal.decreases-loop-row
decreases-loop-row g l = length l.left.items
