use Rattle.std.proofs.Common.{◌≡◌, ◌+◌, ◌≤◌, [], take, length, is_none, None}
use Rattle.std.specs.List.{sum_by, last_or}
use Rattle.mm_plain.specs.Shape.{size_of}
use Rattle.mm_plain.specs.Numbers.{labels_in, numbers_from}
use Rattle.mm_tree.specs.Meanings.{count, mean, means}
use Rattle.mm_tree.specs.View.{values}
use Rattle.mm_tree.proofs.Unknowns.{last_among}
use Rattle.mm_tree.proofs.node.Node.+last_unknown.Given as goal

abbrev pub decreases-last_unknown : goal.decreases-last_unknown
decreases-last_unknown l = count l.self.now

abbrev pub invariant-loop-at : goal.invariant-loop-at
invariant-loop-at l = record {
  some : l.at ≤ length l.kids.items;
  number : l.number ≡ l.first + sum_by size_of (take l.at (means [] (values l.kids.items)));
  last : last_among l.first (take l.at (means [] (values l.kids.items))) ≡ last_or None (numbers_from is_none l.first (labels_in (mean l.fn.self [])));
}

abbrev pub decreases-loop-at : goal.decreases-loop-at
decreases-loop-at l = l.at
