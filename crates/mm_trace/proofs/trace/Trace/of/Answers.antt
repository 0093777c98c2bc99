use Rattle.mm_trace.proofs.TraceLemmas.{trace_more}
use Rattle.mm_trace.proofs.trace.Trace.of.Goals as goal

pub loop-id-preserved : goal.loop-id-preserved
loop-id-preserved c = trace_more c.args.db.now c.loop-id.id c.loop-id.lists.items c.push.new.self.items c.in_ok-used.field-0 c.loop-id.invariant c.in_ok-used.ensures c.in_ok-push.ensures.items
