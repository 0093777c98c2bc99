use Rattle.std.proofs.Common.{◌≤◌, None, Some, ap, sym, cond, arith, take}
use Rattle.mm_subst.specs.Parsing.{number_of}
use Rattle.mm_subst.proofs.Meanings.{number_of-take, not_below}
use Rattle.mm_subst.proofs.work.number_below.Goals as goal

pub returns-then-number-next : goal.returns-then-number-next
returns-then-number-next c =
    let digits = c.args.digits.now in
    let large : c.args.next ≤ number_of digits =
    omega (arith, number_of-take digits c.loop-digit.digit-index, c.loop-digit.invariant.so_far, c.if-number-next.true, c.from-next.ensures) in
    sym (ap (λ b. cond b (Some (number_of digits)) None) (not_below (number_of digits) c.args.next large))
