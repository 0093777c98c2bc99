use Rattle.std.proofs.Common.{◌≡◌, take}
use Rattle.mm_subst.specs.Substitutions.{applied}
use Rattle.mm_tree.proofs.line.replaced.Given as goal

abbrev pub invariant-loop-symbol : goal.invariant-loop-symbol
invariant-loop-symbol l = l.out.items ≡ applied l.theta (take l.symbol-index l.symbol-items)
