use Rattle.mm_tree.proofs.Kids.{seat-found, seat-next, seat-past}
use Rattle.std.proofs.Common.{ap, ◌+◌}
use Rattle.mm_tree.proofs.node.find.Goals as goal

pub returns-then-left-size : goal.returns-then-left-size
returns-then-left-size c = seat-found c.args.kids.now c.args.step c.loop-kid.kid-index c.loop-kid.left c.loop-kid.at c.size-size.result c.kid-item.result c.deref.result.now
    c.loop-kid-test.true c.kid-item.is c.deref.ensures c.size-size.ensures c.if-left-size.true c.loop-kid.invariant.seats

pub loop-kid-preserved : goal.loop-kid-preserved
loop-kid-preserved c = record {
  number = ap (λ n. n + 1) c.loop-kid.invariant.number;
  seats = seat-next c.args.kids.now c.args.step c.loop-kid.kid-index c.loop-kid.left c.loop-kid.at c.size-size.result c.kid-item.result c.deref.result.now
      c.loop-kid-test.true c.kid-item.is c.deref.ensures c.size-size.ensures c.if-left-size.false c.loop-kid.invariant.seats;
}

pub returns : goal.returns
returns c = seat-past c.args.kids.now c.args.step c.loop-kid.kid-index c.loop-kid.left c.loop-kid.at c.loop-kid-test.false c.loop-kid.invariant.seats
