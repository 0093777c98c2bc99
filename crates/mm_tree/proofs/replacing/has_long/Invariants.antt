use Rattle.std.proofs.Common.{◌≡◌, false, map, take, is_some}
use Rattle.std.specs.List.{list_any}
use Rattle.mm_plain.specs.Binding.{bound}
use Rattle.mm_plain.specs.Lengths.{first_long}
use Rattle.mm_tree.specs.Meanings.{means}
use Rattle.mm_tree.specs.View.{values}
use Rattle.mm_tree.proofs.replacing.has_long.Given as goal

abbrev pub invariant-loop-tree : goal.invariant-loop-tree
invariant-loop-tree l = list_any (λ x. is_some (first_long l.db x)) (take l.tree-index (map (bound l.theta) (means l.line (values l.trees)))) ≡ false
