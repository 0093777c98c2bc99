use Rattle.std.proofs.Common.{◌≡◌, ◌≤◌, ◌+◌, [], false, take}
use Rattle.std.specs.List.{sum_by}
use Rattle.mm_plain.specs.Shape.{size_of}
use Rattle.mm_tree.specs.Meanings.{count, means}
use Rattle.mm_tree.specs.View.{values}
use Rattle.mm_tree.proofs.Bared.{bared_kids}
use Rattle.mm_tree.proofs.floats.+bare.Given as goal

abbrev pub decreases-bare : goal.decreases-bare
decreases-bare g l = count l.node.now.value

abbrev pub invariant-loop-kid : goal.invariant-loop-kid
invariant-loop-kid g l = record {
  at : l.at ≡ l.kid-index;
  made : values l.now.items ≡ take l.kid-index (bared_kids l.db l.label (values l.kid-items));
  same : l.changed ≡ false → take l.kid-index (bared_kids l.db l.label (values l.kid-items)) ≡ take l.kid-index (values l.kid-items);
  counted : l.steps ≤ l.initial.steps + sum_by size_of (take l.kid-index (means [] (values l.kid-items)));
}
