use Rattle.std.proofs.Common.{◌≡◌, ◌+◌, ◌≤◌, ap, sym, ◌∙◌, arith}
use Rattle.mm_tree.specs.Meanings.{count}
use Rattle.mm_tree.proofs.Later.{later-le, later-more, later-none}
use Rattle.mm_tree.proofs.node.steps_from.Goals as goal

pub overflow_add-steps : goal.overflow_add-steps
overflow_add-steps c = omega (
  arith,
  c.loop-at.invariant,
  c.requires,
  c.size-steps.ensures,
  ap count c.deref.ensures,
  later-le c.args.kids.now c.args.first,
  later-more c.args.kids.now c.loop-at.at c.index-kids-at.result c.loop-at-test.true c.index-kids-at.is,
)

pub returns : goal.returns
returns c = omega (arith, c.loop-at.invariant, later-none c.args.kids.now c.loop-at.at (omega (arith, c.loop-at-test.false)))
