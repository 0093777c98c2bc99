use Rattle.std.proofs.Common.{◌≡◌, drop, slice_get}
use Rattle.mm_stack.specs.Differing.{faults_with}
use Rattle.mm_stack.proofs.differing.fault_with.Given as goal

abbrev pub invariant-loop-v : goal.invariant-loop-v
invariant-loop-v l = slice_get (faults_with l.db l.parted l.number (drop l.v-index l.right) l.u) 0 ≡ slice_get (faults_with l.db l.parted l.number l.right l.u) 0
