use Rattle.std.proofs.Common.{arith, get_or, refl}
use Rattle.mm_base.proofs.LogLemmas.{IsLogAt, log_is, no_log}
use Rattle.mm_base.proofs.log_buffer.heard_in.Goals as goal
use Rattle.mm_base.proofs.log_buffer.heard_in.Goals.{Else-index-places}

log_here : (c : Else-index-places) → IsLogAt c.args.text.now c.args.places.now c.args.index (get_or c.args.places.now c.args.index (record { name = 0; bytes = 0 }))
log_here c = log_is c.args.text.now c.args.places.now c.args.index (record { name = 0; bytes = 0 }) c.requires c.if-index-places.false

pub returns-then-index-places : goal.returns-then-index-places
returns-then-index-places c = rw (no_log c.args.text.now c.args.places.now c.args.index c.if-index-places.true) refl

pub slice_bounds-result-count : goal.slice_bounds-result-count
slice_bounds-result-count c = let h = log_here (goal.at.slice_bounds-result-count c).Else-index-places in omega (arith, h.high, c.end_of-end.ensures)

pub slice_bounds-result-start : goal.slice_bounds-result-start
slice_bounds-result-start c = let h = log_here (goal.at.slice_bounds-result-start c).Else-index-places in omega (arith, h.high, h.end, c.end_of-end.ensures)

pub slice_bounds-result-end : goal.slice_bounds-result-end
slice_bounds-result-end c = let h = log_here (goal.at.slice_bounds-result-end c).Else-index-places in omega (arith, h.high, h.end, c.end_of-end.ensures)

pub returns : goal.returns
returns c = rw ((log_here (goal.at.returns c).Else-index-places).log, c.end_of-end.ensures) refl
