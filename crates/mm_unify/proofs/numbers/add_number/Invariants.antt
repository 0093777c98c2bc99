use Rattle.std.proofs.Common.{◌≡◌, ◌≤◌, ◌-◌, ◌++◌, take, drop, length}
use Rattle.mm_unify.specs.Variables.{with_number}
use Rattle.mm_unify.proofs.numbers.add_number.Given as goal

abbrev pub invariant-loop-i : goal.invariant-loop-i
invariant-loop-i l = record { within : l.i ≤ length l.numbers.items; front : with_number l.n l.numbers.items ≡ take l.i l.numbers.items ++ with_number l.n (drop l.i l.numbers.items) }

abbrev pub decreases-loop-i : goal.decreases-loop-i
decreases-loop-i l = length l.numbers.items - l.i
