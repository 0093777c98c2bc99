use Rattle.std.proofs.Common.{◌≡◌, ◌+◌, ◌≤◌, drop}
use Rattle.mm_plain.specs.Valid.{most_works}
use Rattle.mm_tree.specs.Labelled.{draws_all}
use Rattle.mm_tree.proofs.drawing.draws.Given as goal

abbrev pub invariant-loop-label : goal.invariant-loop-label
invariant-loop-label l = record {
  counted : l.drawn + draws_all l.db (drop l.label-index l.labels) ≡ draws_all l.db l.labels;
  few : l.drawn ≤ most_works;
}
