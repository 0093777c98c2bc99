use Rattle.mm_trace.proofs.Spreading.{own_more}
use Rattle.mm_trace.proofs.trace.Trace.own_marks.Goals as goal

pub loop-place-preserved : goal.loop-place-preserved
loop-place-preserved c =
    own_more c.args.marked.now c.loop-place.marks.items c.push.new.self.items c.loop-place.place c.is_marked_at.result c.loop-place.invariant c.is_marked_at.ensures c.in_ok-push.ensures.items
