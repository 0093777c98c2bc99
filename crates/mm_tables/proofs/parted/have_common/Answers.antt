use Rattle.std.proofs.Common.{◌≤◌, ◌<◌, arith, get_or, length, sym}
use Rattle.mm_tables.proofs.Numbered.{step_left, step_right, ended_right}
use Rattle.mm_tables.proofs.parted.have_common.Goals as goal

pub loop-place-preserved-then-left-place-2 : goal.loop-place-preserved-then-left-place-2
loop-place-preserved-then-left-place-2 c =
    step_left c.args.left.now c.args.right.now c.loop-place.place c.loop-place.other c.loop-place.invariant (omega arith) (omega arith) (omega arith)

pub loop-place-preserved : goal.loop-place-preserved
loop-place-preserved c =
    let below : get_or c.args.right.now c.loop-place.other 0 < get_or c.args.left.now c.loop-place.place 0 =
    first_of (omega arith, grind (arith, c.if-left-place.false, c.if-left-place-2.false)) in
    step_right c.args.left.now c.args.right.now c.loop-place.place c.loop-place.other c.loop-place.invariant (omega arith) (omega arith) below

pub returns-else-other-right : goal.returns-else-other-right
returns-else-other-right c =
    let ended : length c.args.right.now ≤ c.loop-place.other = omega arith in
    sym (ended_right c.args.left.now c.args.right.now c.loop-place.place c.loop-place.other c.loop-place.invariant ended)
