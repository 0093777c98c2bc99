use Rattle.std.proofs.Common.{◌≡◌, ◌<◌, ◌-◌, ◌∙◌, suc, length, arith}
use Rattle.mm_scope.specs.Contents.{labels_of}
use Rattle.mm_trace.proofs.Listing.{spread_begun, spread_done, spread_down}
use Rattle.mm_trace.proofs.closure.depended_marks.Goals as goal

pub loop-left-init : goal.loop-left-init
loop-left-init c = record {
  count = c.in_ok-marks.ensures.count;
  below = omega arith;
  spreads = spread_begun c.args.db.now c.args.id.0 c.in_ok-marks.marks.items c.in_ok-marks.ensures.each;
}

pub loop-left-preserved : goal.loop-left-preserved
loop-left-preserved c =
    let left = c.loop-left.left in
    let next : suc (left - 1) ≡ left = omega (arith, c.loop-left-test.true) in
    let inside : left - 1 < length c.loop-left.marks.items = omega (arith, c.loop-left-test.true, c.loop-left.invariant.below, c.loop-left.invariant.count, c.requires.own) in
    record {
      count = c.in_ok-pass_on.ensures.count ∙ c.loop-left.invariant.count;
      below = omega (arith, c.loop-left.invariant.below);
      spreads = spread_down c.args.db.now c.args.id.0 left (left - 1) c.loop-left.marks.items c.pass_on.new.marks.items next inside c.loop-left.invariant.spreads c.in_ok-pass_on.ensures;
    }

pub returns : goal.returns
returns c =
    spread_done c.args.db.now c.args.id.0 c.loop-left.left (length (labels_of c.args.db.now)) c.loop-left.marks.items (omega (arith, c.loop-left-test.false)) c.requires.own c.loop-left.invariant.count c.loop-left.invariant.spreads
