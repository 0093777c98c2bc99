-- A plain tree as it is kept, each string with the same birth.
use Rattle.std.specs.Prelude.{ℕ}
use Rattle.mm_plain.specs.declared.plain.Plain.{Plain}
use Rattle.mm_plain.specs.declared.plain.Plain.TheOpen.{Plain-F}
use Rattle.mm_plain.specs.declared.plain.Plain.TheOpen as P
use Rattle.mm_plain.specs.declared.plain.Plain.TheFolds as F
use Rattle.mm_tree.specs.declared.timed.TimedTree.{TimedTree}
use Rattle.mm_tree.specs.Meanings.{unknown_timed, known_timed}

abbrev pub written_step : ℕ → Plain-F TimedTree → TimedTree
written_step birth (P.Unknown t) = unknown_timed (record { birth = birth; string = t })
written_step birth (P.Known t l s kids) = known_timed (record { birth = birth; string = t }) l (record { birth = birth; pairs = s }) kids

unfoldable pub written : ℕ → Plain → TimedTree
written birth = F.fold-Plain TimedTree (written_step birth)
