use Rattle.std.proofs.Common.{◌≡◌, ◌+◌, map, take, None}
use Rattle.std.specs.List.{flat_map, sum_by}
use Rattle.mm_plain.specs.Binding.{bound}
use Rattle.mm_plain.specs.Lengths.{is_long_step}
use Rattle.mm_plain.specs.Numbers.{first_from}
use Rattle.mm_plain.specs.Shape.{size_of, steps_of}
use Rattle.mm_tree.specs.Meanings.{count, means}
use Rattle.mm_tree.specs.View.{values}
use Rattle.mm_tree.proofs.node.Node.+first_long.Given as goal

abbrev pub decreases-first_long : goal.decreases-first_long
decreases-first_long l = count l.self.now

abbrev pub invariant-loop-kid : goal.invariant-loop-kid
invariant-loop-kid l = record {
  number : l.next ≡ l.first + sum_by size_of (take l.kid-index (map (bound l.theta) (means l.line (values l.kid-items))));
  so_far : first_from (is_long_step l.db) l.first (flat_map steps_of (take l.kid-index (map (bound l.theta) (means l.line (values l.kid-items))))) ≡ None;
}
