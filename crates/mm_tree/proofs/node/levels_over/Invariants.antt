use Rattle.std.proofs.Common.{◌≡◌, max, map, drop}
use Rattle.mm_plain.specs.Shape.{greatest}
use Rattle.mm_tree.specs.Meanings.{tall}
use Rattle.mm_tree.specs.View.{values}
use Rattle.mm_tree.proofs.node.levels_over.Given as goal

abbrev pub invariant-loop-kid : goal.invariant-loop-kid
invariant-loop-kid l = max l.levels (greatest (map tall (values (drop l.kid-index l.kids)))) ≡ greatest (map tall (values l.kids))
