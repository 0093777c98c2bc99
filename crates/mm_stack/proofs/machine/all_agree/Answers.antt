use Rattle.std.proofs.Common.{◌&&◌, sym, ap, arith, refl, true}
use Rattle.mm_stack.specs.Seats.{value_in}
use Rattle.mm_stack.specs.Running.{is_instance}
use Rattle.mm_stack.proofs.Assertions.{newest_rest, newest_end, newest_fails, IsAt}
use Rattle.mm_stack.proofs.machine.all_agree.Goals as goal

pub loop-left-init : goal.loop-left-init
loop-left-init c = record {
  fits = omega arith;
  place = omega arith;
  so_far = rw (newest_end c.args.db.now c.args.mandatory.now c.args.stack.now.stack c.requires.room) refl;
}

pub returns-then-not-agrees : goal.returns-then-not-agrees
returns-then-not-agrees c =
    let at : IsAt c.args.mandatory.now c.args.stack.now.stack c.loop-left.left c.loop-left.number =
    record { some = omega arith; within = c.loop-left.invariant.fits; room = c.requires.room; place = c.loop-left.invariant.place } in
    sym (newest_fails (is_instance (value_in c.args.values.now c.args.stack.now.stack)) c.args.db.now c.args.mandatory.now c.args.stack.now.stack c.loop-left.left c.loop-left.number at (sym c.if-not-agrees.ensures))

pub loop-left-preserved : goal.loop-left-preserved
loop-left-preserved c =
    let at : IsAt c.args.mandatory.now c.args.stack.now.stack c.loop-left.left c.loop-left.number =
    record { some = omega arith; within = c.loop-left.invariant.fits; room = c.requires.room; place = c.loop-left.invariant.place } in
    record {
      fits = omega arith;
      place = omega (arith, c.loop-left.invariant.place);
      so_far = rw (newest_rest c.args.db.now c.args.mandatory.now c.args.stack.now.stack c.loop-left.left c.loop-left.number at, c.loop-left.invariant.so_far) (ap (λ b. b && true) (sym c.if-not-agrees.ensures));
    }
