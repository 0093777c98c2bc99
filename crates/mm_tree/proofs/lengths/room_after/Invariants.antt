use Rattle.std.proofs.Common.{◌≡◌, ◌+◌, length, take}
use Rattle.mm_subst.specs.Substitutions.{applied}
use Rattle.mm_tree.proofs.lengths.room_after.Given as goal

abbrev pub invariant-loop-symbol : goal.invariant-loop-symbol
invariant-loop-symbol l = l.left + length (applied l.theta (take l.symbol-index l.symbols)) ≡ l.room
