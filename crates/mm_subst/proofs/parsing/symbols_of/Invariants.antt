use Rattle.std.proofs.Common.{◌≡◌, Some, map, take}
use Rattle.mm_subst.specs.Parsing.{meaning}
use Rattle.mm_subst.proofs.parsing.symbols_of.Given as goal

abbrev pub invariant-loop-word : goal.invariant-loop-word
invariant-loop-word l = map Some l.symbols.items ≡ map (λ w. meaning l.db l.at.0 l.next w.now) (take l.word-index l.words)
