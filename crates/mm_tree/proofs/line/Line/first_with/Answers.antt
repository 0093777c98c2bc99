use Rattle.std.proofs.Common.{subst, arith}
use Rattle.mm_tree.specs.Keyed.{IsKeyed}
use Rattle.mm_tree.proofs.Readings.{first-is}
use Rattle.mm_tree.proofs.line.Line.first_with.Goals as goal

pub returns : goal.returns
returns c = first-is c.self.inside.keyed.now c.args.self.now c.args.number c.args.from c.loop-place.first c.at-place-items.result.now
    (subst (IsKeyed c.self.inside.keyed.now) c.self.view_is c.self.invariant) c.at-place-items.ensures c.loop-place.invariant.reached c.loop-place.invariant.found
    (λ k h. c.loop-place.invariant.least k (omega (arith, h, c.loop-place-test.false)))
