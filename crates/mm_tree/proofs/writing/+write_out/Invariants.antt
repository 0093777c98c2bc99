use Rattle.std.proofs.Common.{◌≡◌, ◌≤◌, ◌+◌, map, take}
use Rattle.std.specs.List.{sum_by}
use Rattle.mm_plain.specs.Shape.{size_of}
use Rattle.mm_tree.specs.Meanings.{count, means}
use Rattle.mm_tree.specs.View.{values}
use Rattle.mm_tree.specs.Written.{written}
use Rattle.mm_tree.proofs.writing.+write_out.Given as goal

abbrev pub decreases-write_out : goal.decreases-write_out
decreases-write_out g l = count l.node.now

abbrev pub invariant-loop-kid : goal.invariant-loop-kid
invariant-loop-kid g l = record {
  made : values l.nodes.items ≡ map (written l.birth) (take l.kid-index (means l.line (values l.kid-items)));
  counted : l.steps ≤ l.initial.steps + sum_by size_of (take l.kid-index (means l.line (values l.kid-items)));
}
