use Rattle.std.proofs.Common.{◌≡◌, ◌≤◌, ◌++◌, [], ◌∷◌, take, length}
use Rattle.std.specs.Prelude.{reverse}
use Rattle.mm_plain.specs.Rows.{fresh_rows}
use Rattle.mm_tree.specs.Labelled.{draws_all}
use Rattle.mm_tree.proofs.rows.fresh_rows.Given as goal

abbrev pub invariant-loop-left : goal.invariant-loop-left
invariant-loop-left l = record {
  made : l.rows.items ++ fresh_rows l.db l.before (reverse l.targets.items) (reverse (take l.left l.labels)) ≡ fresh_rows l.db l.next (l.fn.target ∷ []) (reverse l.labels);
  drawn : draws_all l.db (take l.left l.labels) ≤ l.before;
  last : l.before ≤ l.next;
  within : l.left ≤ length l.labels;
}

abbrev pub decreases-loop-left : goal.decreases-loop-left
decreases-loop-left l = l.left
