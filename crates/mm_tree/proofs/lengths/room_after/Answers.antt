use Rattle.std.proofs.Common.{◌+◌, length, ap, arith}
use Rattle.mm_subst.proofs.Replaced.{applied-nil, length-applied-take}
use Rattle.mm_tree.proofs.Longs.{one-more}
use Rattle.mm_tree.proofs.lengths.room_after.Goals as goal

pub loop-symbol-init : goal.loop-symbol-init
loop-symbol-init c = omega (arith, ap length (applied-nil c.args.theta.now))

pub returns-then-size-left : goal.returns-then-size-left
returns-then-size-left c =
    let one = one-more c.args.theta.now c.args.symbols.now c.loop-symbol.symbol-index _ c.value-size.result.now c.loop-symbol-test.true c.value-size.ensures in
    omega (arith, one, c.loop-symbol.invariant, c.if-size-left.true, length-applied-take c.args.theta.now c.args.symbols.now (c.loop-symbol.symbol-index + 1))

pub loop-symbol-preserved : goal.loop-symbol-preserved
loop-symbol-preserved c =
    let one = one-more c.args.theta.now c.args.symbols.now c.loop-symbol.symbol-index _ c.value-size.result.now c.loop-symbol-test.true c.value-size.ensures in
    omega (arith, one, c.loop-symbol.invariant, c.if-size-left.false)
