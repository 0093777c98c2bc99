use Rattle.mm_trace.proofs.Spreading.{trace_depends}
use Rattle.mm_trace.proofs.TraceLemmas.{trace_tells}
use Rattle.mm_trace.proofs.laws.traces_tell_uses.Goals as goal

pub returns : goal.returns
returns c = record {
  uses = λ id on small. trace_tells c.args.bytes.now id on small;
  dependence = λ id on small. trace_depends c.args.bytes.now id on small;
}
