use Rattle.std.proofs.Common.{◌≡◌, false, take}
use Rattle.std.specs.List.{list_any}
use Rattle.mm_plain.specs.Floats.{has_float}
use Rattle.mm_plain.specs.Shape.{steps_of}
use Rattle.mm_tree.specs.Lines.{Line}
use Rattle.mm_tree.specs.Meanings.{count, means}
use Rattle.mm_tree.specs.View.{values}
use Rattle.mm_tree.proofs.floats.+has_float.Given as goal

abbrev pub decreases-has_float : goal.decreases-has_float
decreases-has_float l = count l.node.now

abbrev pub invariant-loop-kid : goal.invariant-loop-kid
invariant-loop-kid l = (line : Line) → list_any (λ x. list_any (has_float l.db) (steps_of x)) (take l.kid-index (means line (values l.kid-items))) ≡ false
