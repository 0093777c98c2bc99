use Rattle.std.proofs.Common.{length, ◌-◌, ◌≡◌, ◌≤◌, drop}
use Rattle.mm_unify.specs.Search.{cut}
use Rattle.mm_unify.proofs.waiting.equal_heads.Given as goal

abbrev pub invariant-loop-k : goal.invariant-loop-k
invariant-loop-k l = record { in_left : l.k ≤ length l.l; in_right : l.k ≤ length l.r; same : cut (drop l.k l.l) (drop l.k l.r) ≡ cut l.l l.r }

abbrev pub decreases-loop-k : goal.decreases-loop-k
decreases-loop-k l = length l.l - l.k
