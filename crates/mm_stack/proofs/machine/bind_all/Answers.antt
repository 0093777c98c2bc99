use Rattle.std.proofs.Common.{◌&&◌, sym, ap, ◌∙◌, arith, refl, true, subst, drop}
use Rattle.mm_stack.specs.Seats.{value_by}
use Rattle.mm_stack.specs.Running.{has_typecode, substitution_of}
use Rattle.mm_stack.specs.Machines.{Means}
use Rattle.mm_stack.proofs.Assertions.{newest, newest_rest, newest_end, newest_fails, IsAt}
use Rattle.mm_stack.proofs.machine.bind_all.Goals as goal

pub loop-left-init : goal.loop-left-init
loop-left-init c = record {
  fits = omega arith;
  place = omega arith;
  so_far = rw (newest_end c.args.db.now c.args.mandatory.now c.args.stack.now.stack c.requires.room) refl;
  means = λ s. rw (newest_end c.args.db.now c.args.mandatory.now c.args.stack.now.stack c.requires.room) (ap (value_by c.args.stack.now.stack s) (c.clear.ensures s));
}

pub returns-then-not-branch-clause-fits : goal.returns-then-not-branch-clause-fits
returns-then-not-branch-clause-fits c =
    let at : IsAt c.args.mandatory.now c.args.stack.now.stack c.loop-left.left c.loop-left.number =
    record { some = omega arith; within = c.loop-left.invariant.fits; room = c.requires.room; place = c.loop-left.invariant.place } in
    sym (newest_fails has_typecode c.args.db.now c.args.mandatory.now c.args.stack.now.stack c.loop-left.left c.loop-left.number at (sym c.in_ok-bind.ensures.fits ∙ c.if-not-branch.true))

pub loop-left-preserved : goal.loop-left-preserved
loop-left-preserved c =
    let at : IsAt c.args.mandatory.now c.args.stack.now.stack c.loop-left.left c.loop-left.number =
    record { some = omega arith; within = c.loop-left.invariant.fits; room = c.requires.room; place = c.loop-left.invariant.place } in
    record {
      fits = omega arith;
      place = omega (arith, c.loop-left.invariant.place);
      so_far = rw (newest_rest c.args.db.now c.args.mandatory.now c.args.stack.now.stack c.loop-left.left c.loop-left.number at, c.loop-left.invariant.so_far) (ap (λ b. b && true) (sym c.in_ok-bind.ensures.fits ∙ c.if-not-branch.false));
      means = subst (λ rest. Means c.bind.new.values c.args.stack.now.stack (substitution_of rest)) (sym (newest_rest c.args.db.now c.args.mandatory.now c.args.stack.now.stack c.loop-left.left c.loop-left.number at))
          (c.in_ok-bind.ensures.means c.if-not-branch.false (substitution_of (drop c.loop-left.left (newest c.args.db.now c.args.mandatory.now c.args.stack.now.stack))) c.loop-left.invariant.means);
    }
