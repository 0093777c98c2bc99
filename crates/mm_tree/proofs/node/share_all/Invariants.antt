use Rattle.std.proofs.Common.{◌≡◌, take}
use Rattle.mm_tree.specs.View.{values}
use Rattle.mm_tree.proofs.node.share_all.Given as goal

abbrev pub invariant-loop-kid : goal.invariant-loop-kid
invariant-loop-kid l = values l.shared.items ≡ values (take l.kid-index l.kids)
