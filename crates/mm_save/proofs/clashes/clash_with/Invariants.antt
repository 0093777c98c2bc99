use Rattle.std.proofs.Common.{◌≡◌, drop, slice_get}
use Rattle.mm_save.specs.Clashes.{clashes_with}
use Rattle.mm_save.proofs.clashes.clash_with.Given as goal

abbrev pub invariant-loop-v : goal.invariant-loop-v
invariant-loop-v l = slice_get (clashes_with l.parted l.step (drop l.v-index l.right) l.u) 0 ≡ slice_get (clashes_with l.parted l.step l.right l.u) 0
