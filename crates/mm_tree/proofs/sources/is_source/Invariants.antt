use Rattle.std.proofs.Common.{◌≡◌, map, drop}
use Rattle.std.specs.Cmp.Lexicographic.{pointwise}
use Rattle.mm_subst.specs.Statements.{symbol_of}
use Rattle.mm_subst.specs.Substitutions.{applied}
use Rattle.mm_subst.specs.Symbols.{is_same}
use Rattle.mm_tree.proofs.sources.is_source.Given as goal

abbrev pub invariant-loop-number : goal.invariant-loop-number
invariant-loop-number l =
    pointwise is_same l.target (applied l.sigma (map (symbol_of l.db) l.number-items))
    ≡ pointwise is_same l.left (applied l.sigma (map (symbol_of l.db) (drop l.number-index l.number-items)))
