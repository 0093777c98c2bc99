use Rattle.std.proofs.Common.{◌≡◌, ◌+◌, drop}
use Rattle.std.specs.List.{sum_by}
use Rattle.mm_tree.specs.Meanings.{unknown_count}
use Rattle.mm_tree.specs.View.{Shared}
use Rattle.mm_tree.proofs.node.unknowns_over.Given as goal

abbrev pub invariant-loop-kid : goal.invariant-loop-kid
invariant-loop-kid l = l.unknowns + sum_by (λ (r : Shared). unknown_count r.value) (drop l.kid-index l.kids) ≡ sum_by (λ (r : Shared). unknown_count r.value) l.kids
