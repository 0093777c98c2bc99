use Rattle.std.proofs.Common.{◌≡◌, ◌+◌, ◌++◌, take}
use Rattle.std.specs.List.{flat_map, sum_by}
use Rattle.mm_plain.specs.Shape.{size_of, steps_of}
use Rattle.mm_plain.specs.Sources.{is_pending}
use Rattle.mm_plain.specs.Numbers.{numbers_from}
use Rattle.mm_tree.specs.Meanings.{count, means}
use Rattle.mm_tree.specs.View.{values}
use Rattle.mm_tree.proofs.node.Node.+pending.Given as goal

abbrev pub decreases-pending : goal.decreases-pending
decreases-pending l = count l.self.now

abbrev pub invariant-loop-kid : goal.invariant-loop-kid
invariant-loop-kid l = record {
  number : l.next ≡ l.first + sum_by size_of (take l.kid-index (means l.line (values l.kid-items)));
  so_far : l.into.items ≡ l.initial.into.items ++ numbers_from (is_pending l.db) l.first (flat_map steps_of (take l.kid-index (means l.line (values l.kid-items))));
}
