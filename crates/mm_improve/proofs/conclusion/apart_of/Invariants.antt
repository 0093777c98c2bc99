use Rattle.std.proofs.Common.{◌≡◌, ◌++◌, drop, map}
use Rattle.mm_improve.specs.Grammars.{place, place_or_none}
use Rattle.mm_improve.proofs.conclusion.apart_of.Given as goal

abbrev pub invariant-loop-pair : goal.invariant-loop-pair
invariant-loop-pair l =
    l.apart.items ++ map (λ p. (place_or_none (place l.order p.0), place_or_none (place l.order p.1))) (drop l.pair-index l.pairs)
    ≡ map (λ p. (place_or_none (place l.order p.0), place_or_none (place l.order p.1))) l.pairs
