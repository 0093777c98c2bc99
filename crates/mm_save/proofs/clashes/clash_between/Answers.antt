use Rattle.std.proofs.Common.{sym, ◌∙◌, arith}
use Rattle.mm_save.specs.Clashes.{clashes_with}
use Rattle.mm_save.proofs.Firsts.{goes_on, stops}
use Rattle.mm_save.proofs.clashes.clash_between.Goals as goal

pub returns-in-Some : goal.returns-in-Some
returns-in-Some c =
    stops (clashes_with c.args.parted.now c.args.step c.args.right.now) c.args.left.now c.loop-u.u-index 0 c.in-Some.clash (omega arith) (sym c.in-Some.is ∙ c.clash_with.ensures)
    ∙ c.loop-u.invariant

pub loop-u-preserved : goal.loop-u-preserved
loop-u-preserved c =
    goes_on (clashes_with c.args.parted.now c.args.step c.args.right.now) c.args.left.now c.loop-u.u-index 0 (omega arith) (sym c.in_default.is ∙ c.clash_with.ensures)
    ∙ c.loop-u.invariant
