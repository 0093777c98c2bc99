use Rattle.mm_tree.proofs.Occurs.{values-hold}
use Rattle.mm_tree.proofs.occurring.has_value_with.Goals as goal

pub returns-then-branch : goal.returns-then-branch
returns-then-branch c = values-hold c.args.number c.args.line.now c.args.sigma.now.birth c.pairs-value-items.result.now c.args.sigma.now.pairs c.loop-value.value-index c.loop-value-item.result c.in_ok-holds_now.field-0
    c.loop-value-test.true c.loop-value-item.is c.pairs-value-items.ensures.pairs c.in_ok-holds_now.ensures c.if-branch.true
