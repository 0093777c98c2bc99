use Rattle.std.proofs.Common.{◌≡◌, ◌+◌, [], drop}
use Rattle.mm_plain.specs.Shape.{seat}
use Rattle.mm_tree.specs.Meanings.{means}
use Rattle.mm_tree.specs.View.{values}
use Rattle.mm_tree.proofs.node.find.Given as goal

abbrev pub invariant-loop-kid : goal.invariant-loop-kid
invariant-loop-kid l = record {
  number : l.at ≡ l.kid-index;
  seats : seat (means [] (values l.kids)) l.step ≡ ((seat (means [] (values (drop l.kid-index l.kids))) l.left).0 + l.at, (seat (means [] (values (drop l.kid-index l.kids))) l.left).1);
}
