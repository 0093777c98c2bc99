use Rattle.std.proofs.Common.{◌≡◌, ◌≤◌, ◌+◌, ◌-◌, true, length, drop}
use Rattle.std.specs.List.{list_all}
use Rattle.mm_stack.specs.Running.{arguments, has_typecode, substitution_of}
use Rattle.mm_stack.specs.Machines.{Means}
use Rattle.mm_stack.proofs.machine.bind_all.Given as goal

abbrev pub invariant-loop-left : goal.invariant-loop-left
invariant-loop-left l = record {
  fits : l.left ≤ length l.mandatory;
  place : l.number + length l.mandatory ≡ length l.stack.stack + l.left;
  so_far : list_all has_typecode (drop l.left (arguments l.db l.mandatory (drop (length l.stack.stack - length l.mandatory) l.stack.stack))) ≡ true;
  means : Means l.values l.stack.stack (substitution_of (drop l.left (arguments l.db l.mandatory (drop (length l.stack.stack - length l.mandatory) l.stack.stack))));
}

abbrev pub decreases-loop-left : goal.decreases-loop-left
decreases-loop-left l = l.left
