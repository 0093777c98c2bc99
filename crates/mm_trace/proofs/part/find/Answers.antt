use Rattle.mm_trace.proofs.SegmentLemmas.{finds_none, finds_some, finds_within}
use Rattle.mm_trace.proofs.part.find.Goals as goal

pub returns-clause-none : goal.returns-clause-none
returns-clause-none c = finds_none c.args.byte c.args.bytes.now c.memchr.result c.memchr.ensures

pub returns-clause-some : goal.returns-clause-some
returns-clause-some c = finds_some c.args.byte c.args.bytes.now c.memchr.result c.memchr.ensures

pub returns-clause-within : goal.returns-clause-within
returns-clause-within c = finds_within c.args.byte c.args.bytes.now c.memchr.result c.memchr.ensures
