use Rattle.std.proofs.Common.{◌≡◌, ◌≤◌, ◌+◌, ◌-◌, true, length, drop}
use Rattle.std.specs.List.{list_all}
use Rattle.mm_stack.specs.Seats.{value_in}
use Rattle.mm_stack.specs.Running.{arguments, is_instance}
use Rattle.mm_stack.proofs.machine.all_agree.Given as goal

abbrev pub invariant-loop-left : goal.invariant-loop-left
invariant-loop-left l = record {
  fits : l.left ≤ length l.mandatory;
  place : l.number + length l.mandatory ≡ length l.stack.stack + l.left;
  so_far : list_all (is_instance (value_in l.values l.stack.stack)) (drop l.left (arguments l.db l.mandatory (drop (length l.stack.stack - length l.mandatory) l.stack.stack))) ≡ true;
}

abbrev pub decreases-loop-left : goal.decreases-loop-left
decreases-loop-left l = l.left
