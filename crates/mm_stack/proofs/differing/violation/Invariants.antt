use Rattle.std.proofs.Common.{◌≡◌, drop, slice_get}
use Rattle.mm_stack.specs.Seats.{value_in}
use Rattle.mm_stack.specs.Differing.{violations}
use Rattle.mm_stack.proofs.differing.violation.Given as goal

abbrev pub invariant-loop-pair : goal.invariant-loop-pair
invariant-loop-pair l =
    slice_get (violations l.db l.parted l.number (value_in l.values l.stack.stack) (drop l.pair-index l.pairs)) 0
    ≡ slice_get (violations l.db l.parted l.number (value_in l.values l.stack.stack) l.pairs) 0
