-- The label tree of a proof.
use Rattle.std.specs.Prelude.{suc}
use Rattle.mm_plain.specs.declared.plain.Plain.{Plain}
use Rattle.mm_plain.specs.declared.plain.Plain.TheOpen.{Plain-F}
use Rattle.mm_plain.specs.declared.plain.Plain.TheOpen as P
use Rattle.mm_plain.specs.declared.plain.Plain.TheFolds as F
use Rattle.mm_proof.specs.Trees.{Tree, none, tree, trees_of}

-- one layer, with the label tree of each child; a label is told by its number, one more than the id of its statement, and an
-- unknown step by 0
abbrev pub label_step : Plain-F Tree → Tree
label_step (P.Unknown t) = tree 0 none
label_step (P.Known t l s ts) = tree (suc l) (trees_of ts)

unfoldable pub label_tree : Plain → Tree
label_tree = F.fold-Plain Tree label_step
