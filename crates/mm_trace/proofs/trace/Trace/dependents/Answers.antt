use Rattle.mm_trace.proofs.Spreading.{rests_more}
use Rattle.mm_trace.proofs.trace.Trace.dependents.Goals as goal

pub loop-place-preserved : goal.loop-place-preserved
loop-place-preserved c =
    rests_more c.args.self.now c.requires c.args.marked.now c.loop-place.marks.items c.as_slice.result.now c.push.new.self.items c.used_at.result.now c.loop-place.place c.is_marked_at.result c.rests-rests.result
    c.loop-place.invariant c.used_at.ensures c.as_slice.ensures.value c.is_marked_at.ensures c.rests-rests.ensures c.in_ok-push.ensures.items
