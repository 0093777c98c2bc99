use Rattle.std.proofs.Common.{◌≡◌, drop, slice_get}
use Rattle.mm_save.specs.Clashes.{clashes_between}
use Rattle.mm_save.proofs.clashes.clash_between.Given as goal

abbrev pub invariant-loop-u : goal.invariant-loop-u
invariant-loop-u l = slice_get (clashes_between l.parted l.step (drop l.u-index l.left) l.right) 0 ≡ slice_get (clashes_between l.parted l.step l.left l.right) 0
