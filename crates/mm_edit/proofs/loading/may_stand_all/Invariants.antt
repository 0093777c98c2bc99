use Rattle.std.proofs.Common.{◌≡◌, drop}
use Rattle.std.specs.List.{list_all}
use Rattle.mm_edit.specs.Loading.{stands_at}
use Rattle.mm_edit.proofs.loading.may_stand_all.Given as goal

abbrev pub invariant-loop-label : goal.invariant-loop-label
invariant-loop-label l = list_all (stands_at l.db l.at.0) (drop l.label-index l.labels) ≡ list_all (stands_at l.db l.at.0) l.labels
