use Rattle.std.proofs.Common.{◌≡◌, [], ◌++◌, take}
use Rattle.std.specs.List.{flat_map}
use Rattle.mm_plain.specs.Numbers.{labels_in}
use Rattle.mm_tree.specs.Meanings.{means}
use Rattle.mm_tree.specs.View.{values}
use Rattle.mm_tree.proofs.node.Node.+labels.Given as goal

abbrev pub invariant-loop-kid : goal.invariant-loop-kid
invariant-loop-kid l = l.into.items ≡ l.initial.into.items ++ flat_map labels_in (take l.kid-index (means [] (values l.kid-items)))
