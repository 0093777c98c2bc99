use Rattle.std.proofs.Common.{arith, refl}
use Rattle.mm_base.proofs.RecorderLemmas.{passed_none, passed_next, passed_stays, passed_lost, passed_all}
use Rattle.mm_base.proofs.recorders.call_each.Goals as goal

pub loop-i-init : goal.loop-i-init
loop-i-init g c = record {
  room = c.requires.room;
  passed = passed_none _ _ _ _ c.args.live.now.items c.args.lost.now.items c.args.lost.now.items refl c.requires.begun;
}

pub make_call-requires : goal.make_call-requires
make_call-requires g c = rw c.index_mut.ensures.value (passed_next _ _ _ _ _ _ _ _ _ _ c.loop-i.invariant.passed (omega (arith, c.loop-i.live.ok.0)))

pub loop-i-preserved-then-make_call : goal.loop-i-preserved-then-make_call
loop-i-preserved-then-make_call g c = record {
  room = c.loop-i.invariant.room;
  passed = passed_stays _ _ _ _ _ _ _ _ _ c.index_mut.result.now _ c.loop-i.invariant.passed (omega (arith, c.loop-i.live.ok.0)) (rw (← c.index_mut.ensures.value) (c.make_call.ensures.stays c.if-make_call.true)) (c.make_call.ensures.begun c.if-make_call.true);
}

pub loop-i-preserved : goal.loop-i-preserved
loop-i-preserved g c = record {
  room = omega arith;
  passed = rw (c.push_reserved.ensures.items, c.remove-recorder.ensures.items) (passed_lost _ _ _ _ _ _ _ _ _ c.index_mut.result.now _ _ c.loop-i.invariant.passed (omega (arith, c.loop-i.live.ok.0)) (rw (← c.index_mut.ensures.value) (c.make_call.ensures.lost c.if-make_call.false)) c.remove-recorder.ensures.value);
}

pub returns : goal.returns
returns g c =
    let all = passed_all _ _ _ _ _ _ _ _ _ c.loop-i.invariant.passed (omega (arith, c.loop-i.live.ok.0)) in
    record { begun = all.0; room = c.loop-i.invariant.room; split = record { gone = all.1.gone; lost_is = all.1.lost_is; split = all.1.split } }
