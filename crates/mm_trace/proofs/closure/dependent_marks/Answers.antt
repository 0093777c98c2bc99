use Rattle.std.proofs.Common.{◌∙◌}
use Rattle.mm_trace.proofs.Listing.{next_mark}
use Rattle.mm_trace.proofs.closure.dependent_marks.Goals as goal

pub loop-id-preserved : goal.loop-id-preserved
loop-id-preserved c =
    next_mark c.args.db.now c.loop-id.id c.args.on.0 c.as_slice.result.now c.loop-id.marks.items c.as_slice-in-loop-id.result.now _ c.some_rests-rests.result
    (c.as_slice.ensures.value ∙ c.in_ok-used.ensures) c.as_slice-in-loop-id.ensures.value c.loop-id.invariant c.some_rests-rests.ensures c.in_ok-push.ensures.items
