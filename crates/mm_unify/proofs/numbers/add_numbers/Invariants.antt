use Rattle.std.proofs.Common.{◌≡◌, ◌≤◌, ◌++◌, drop, length, List}
use Rattle.mm_subst.specs.declared.symbol.WSym.{WSym}
use Rattle.mm_unify.specs.Variables.{numbers}
use Rattle.mm_unify.proofs.numbers.add_numbers.Given as goal

abbrev pub invariant-loop-i : goal.invariant-loop-i
invariant-loop-i l = record { within : l.i ≤ length l.s; front : (rest : List WSym) → l.initial.out.items ≡ numbers rest → l.out.items ≡ numbers (drop l.i l.s ++ rest) }

abbrev pub decreases-loop-i : goal.decreases-loop-i
decreases-loop-i l = l.i
