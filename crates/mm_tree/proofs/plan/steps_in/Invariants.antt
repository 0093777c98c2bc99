use Rattle.std.proofs.Common.{◌≡◌, ◌+◌, drop}
use Rattle.std.specs.List.{sum_by}
use Rattle.mm_tree.proofs.plan.steps_in.Given as goal

abbrev pub invariant-loop-note : goal.invariant-loop-note
invariant-loop-note l = l.steps + sum_by (λ n. n.steps) (drop l.note-index l.notes) ≡ sum_by (λ n. n.steps) l.notes
