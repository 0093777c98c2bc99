use Rattle.std.proofs.Common.{length}
use Rattle.mm_base.proofs.LogLemmas.{end_is_next, end_is_last}
use Rattle.mm_base.proofs.log_buffer.end_of.Goals as goal

pub returns-then-index-places : goal.returns-then-index-places
returns-then-index-places c = end_is_next (length c.args.text.now) c.args.places.now c.args.index (record { name = 0; bytes = 0 }) c.if-index-places.true

pub returns-else-index-places : goal.returns-else-index-places
returns-else-index-places c = end_is_last (length c.args.text.now) c.args.places.now c.args.index c.if-index-places.false
