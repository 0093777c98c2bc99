use Rattle.std.proofs.Common.{◌≡◌, false, take}
use Rattle.std.specs.List.{list_any}
use Rattle.mm_plain.specs.Occurring.{occurs_in}
use Rattle.mm_tree.specs.Meanings.{count, means}
use Rattle.mm_tree.specs.View.{values}
use Rattle.mm_tree.proofs.occurring.+occurs_in.Given as goal

abbrev pub decreases-occurs_in : goal.decreases-occurs_in
decreases-occurs_in l = count l.node.now

abbrev pub invariant-loop-kid : goal.invariant-loop-kid
invariant-loop-kid l = list_any (occurs_in l.number) (take l.kid-index (means l.line (values l.kid-items))) ≡ false
