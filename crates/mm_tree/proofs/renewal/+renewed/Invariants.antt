use Rattle.std.proofs.Common.{◌≡◌, ◌+◌, ◌≤◌, List, [], map, drop, length, reverse}
use Rattle.std.specs.List.{sum_by}
use Rattle.mm_subst.specs.Substitutions.{applied}
use Rattle.mm_plain.specs.Drawing.{draws_of, fresh_for, with_fresh_kids}
use Rattle.mm_plain.specs.Premises.{premises_of}
use Rattle.mm_plain.specs.Shape.{size_of}
use Rattle.mm_tree.specs.Meanings.{count, means}
use Rattle.mm_tree.specs.View.{values}
use Rattle.mm_tree.specs.Written.{written}
use Rattle.mm_tree.proofs.renewal.+renewed.Given as goal

abbrev pub decreases-renewed : goal.decreases-renewed
decreases-renewed g l = count l.node.now

abbrev pub invariant-loop-at : goal.invariant-loop-at
invariant-loop-at g l = record {
  some : l.at ≤ length l.kids.items;
  made : values l.nodes.items ≡ reverse (map (written l.birth) (with_fresh_kids l.db (drop l.at (means [] (values l.kids.items))) l.end (drop l.at (map (applied (fresh_for l.db l.initial.end l.label)) (premises_of l.db l.label)))));
  taken : l.end + sum_by (draws_of l.db) (drop l.at (means [] (values l.kids.items))) ≡ l.initial.end;
  counted : l.steps ≤ l.initial.steps + sum_by size_of (drop l.at (means [] (values l.kids.items)));
}

abbrev pub decreases-loop-at : goal.decreases-loop-at
decreases-loop-at g l = l.at
