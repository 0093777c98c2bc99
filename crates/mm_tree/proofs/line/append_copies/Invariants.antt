use Rattle.std.proofs.Common.{◌≡◌, ◌++◌, take}
use Rattle.mm_tree.proofs.line.append_copies.Given as goal

abbrev pub invariant-loop-theta : goal.invariant-loop-theta
invariant-loop-theta l = l.into.items ≡ l.initial.into.items ++ take l.theta-index l.bindings
