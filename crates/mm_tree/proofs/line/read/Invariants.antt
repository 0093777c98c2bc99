use Rattle.std.proofs.Common.{◌≡◌, ◌++◌, drop, map}
use Rattle.mm_tree.specs.Lines.{after}
use Rattle.mm_tree.specs.Reading.{meant, weights}
use Rattle.mm_tree.proofs.line.read.Given as goal

abbrev pub invariant-loop-symbols : goal.invariant-loop-symbols
invariant-loop-symbols l = l.out.items ++ meant l.line (map (λ p. (p.0.now, p.1)) l.left.items) ≡ after (drop l.birth l.line) l.s

abbrev pub decreases-loop-symbols : goal.decreases-loop-symbols
decreases-loop-symbols l = weights l.line (map (λ p. (p.0.now, p.1)) l.left.items)
