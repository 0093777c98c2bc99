use Rattle.std.proofs.Common.{◌≡◌, drop}
use Rattle.mm_plain.specs.Floats.{has_float_among}
use Rattle.mm_tree.specs.Lines.{Line}
use Rattle.mm_tree.specs.Meanings.{means}
use Rattle.mm_tree.specs.View.{values}
use Rattle.mm_tree.proofs.floats.has_float_among.Given as goal

abbrev pub invariant-loop-kid : goal.invariant-loop-kid
invariant-loop-kid l = record {
  at : l.at ≡ l.kid-index;
  left : (line : Line) → has_float_among l.db (drop l.kid-index l.premises) (drop l.kid-index (means line (values l.kids))) ≡ has_float_among l.db l.premises (means line (values l.kids));
}
