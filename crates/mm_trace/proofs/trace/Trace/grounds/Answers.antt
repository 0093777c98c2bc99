use Rattle.std.proofs.Common.{◌≡◌, ◌<◌, ◌-◌, ◌∙◌, suc, length, sym, subst, arith, ℕ}
use Rattle.mm_trace.specs.Marks.{Spreads}
use Rattle.mm_trace.proofs.Spreading.{grounds_begun, grounds_done, grounds_down, with_marked}
use Rattle.mm_trace.proofs.trace.Trace.grounds.Goals as goal

pub loop-left-init : goal.loop-left-init
loop-left-init c = record {
  count = c.in_ok-marks.ensures.count;
  below = omega arith;
  spreads =
      subst (λ (k : ℕ). Spreads (with_marked c.args.self.now c.args.marked.now) (length c.args.self.now) k c.in_ok-marks.marks.items) (sym c.count-left.ensures)
      (grounds_begun c.args.self.now c.args.marked.now c.requires c.in_ok-marks.marks.items c.in_ok-marks.ensures);
}

pub loop-left-preserved : goal.loop-left-preserved
loop-left-preserved c =
    let left = c.loop-left.left in
    let next : suc (left - 1) ≡ left = omega (arith, c.loop-left-test.true) in
    let inside : left - 1 < length c.args.self.now = omega (arith, c.loop-left-test.true, c.loop-left.invariant.below) in
    record {
      count = c.pass_on.ensures.count ∙ c.loop-left.invariant.count;
      below = omega (arith, c.loop-left.invariant.below);
      spreads =
          grounds_down c.args.self.now c.args.marked.now c.requires left (left - 1) c.loop-left.marks.items c.pass_on.new.marks.items next inside c.loop-left.invariant.count c.loop-left.invariant.spreads
          c.pass_on.ensures;
    }

pub returns : goal.returns
returns c =
    grounds_done c.args.self.now c.args.marked.now c.requires c.loop-left.left c.loop-left.marks.items (omega (arith, c.loop-left-test.false)) c.loop-left.invariant.count c.loop-left.invariant.spreads
