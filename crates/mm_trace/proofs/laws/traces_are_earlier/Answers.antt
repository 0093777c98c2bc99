use Rattle.mm_trace.proofs.Spreading.{trace_count, trace_earlier}
use Rattle.mm_trace.proofs.laws.traces_are_earlier.Goals as goal

pub returns : goal.returns
returns c = record { earlier = trace_earlier c.args.bytes.now; count = trace_count c.args.bytes.now }
