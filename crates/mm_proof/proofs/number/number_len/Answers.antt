use Rattle.std.proofs.Common.{length, ap, arith}
use Rattle.mm_proof.proofs.Digits.{length_step, length_letters, leading_zero, short_letters}
use Rattle.mm_proof.proofs.number.number_len.Goals as goal

pub loop-quotient-preserved : goal.loop-quotient-preserved
loop-quotient-preserved c =
    let e = length_step c.loop-quotient.quotient c.loop-quotient-test.true in
    let i = c.loop-quotient.invariant.count in
    let j = c.loop-quotient.invariant.small in
    record { count = omega arith; small = omega arith }

pub returns-clause-value : goal.returns-clause-value
returns-clause-value c =
    let e = ap length (leading_zero c.loop-quotient.quotient (omega arith)) in
    let f = length_letters c.args.number in
    let i = c.loop-quotient.invariant.count in
    omega arith

pub returns-clause-small : goal.returns-clause-small
returns-clause-small c =
    let e = ap length (leading_zero c.loop-quotient.quotient (omega arith)) in
    let f = length_letters c.args.number in
    let g = short_letters c.args.number c.ranges.number.fits in
    let i = c.loop-quotient.invariant.count in
    omega arith
