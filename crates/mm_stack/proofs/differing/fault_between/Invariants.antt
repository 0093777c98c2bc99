use Rattle.std.proofs.Common.{◌≡◌, drop, slice_get}
use Rattle.mm_stack.specs.Differing.{faults_between}
use Rattle.mm_stack.proofs.differing.fault_between.Given as goal

abbrev pub invariant-loop-u : goal.invariant-loop-u
invariant-loop-u l = slice_get (faults_between l.db l.parted l.number (drop l.u-index l.left) l.right) 0 ≡ slice_get (faults_between l.db l.parted l.number l.left l.right) 0
