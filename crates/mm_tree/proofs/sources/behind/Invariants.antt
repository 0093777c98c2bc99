use Rattle.std.proofs.Common.{◌≡◌, ◌++◌, List, drop}
use Rattle.std.specs.Cmp.Lexicographic.{pointwise}
use Rattle.mm_subst.specs.Symbols.{is_same}
use Rattle.mm_subst.specs.declared.symbol.WSym.{WSym}
use Rattle.mm_tree.proofs.sources.behind.Given as goal

abbrev pub invariant-loop-symbol : goal.invariant-loop-symbol
invariant-loop-symbol l = (s : List WSym) → pointwise is_same l.whole (l.front ++ s) ≡ pointwise is_same l.left (drop l.symbol-index l.front ++ s)
