use Rattle.std.proofs.Common.{◌≡◌, take, drop}
use Rattle.mm_edit.proofs.laying.same_labels.Given as goal

abbrev pub invariant-loop-i : goal.invariant-loop-i
invariant-loop-i l = take l.i (drop l.a l.labels) ≡ take l.i (drop l.b l.labels)
