use Rattle.std.proofs.Common.{ap, arith}
use Rattle.mm_tree.specs.Meanings.{unknown_count}
use Rattle.mm_tree.proofs.Kids.{unknown_counts-le-counts, unknown_counts-left}
use Rattle.mm_tree.proofs.node.unknowns_over.Goals as goal

pub overflow_add-unknowns : goal.overflow_add-unknowns
overflow_add-unknowns c = omega (
  arith,
  c.requires,
  c.loop-kid.invariant,
  c.unknowns-unknowns.ensures,
  ap unknown_count c.deref.ensures,
  unknown_counts-le-counts c.args.kids.now,
  unknown_counts-left c.args.kids.now c.loop-kid.kid-index c.kid-item.result c.loop-kid-test.true c.kid-item.is,
)
