use Rattle.std.proofs.Common.{◌≡◌, ◌≤◌, ◌-◌, ◌++◌, max, slice_range}
use Rattle.mm_edit.proofs.label_list.repeat.Given as goal

abbrev pub invariant-loop-place : goal.invariant-loop-place
invariant-loop-place l = record {
  low : l.begin ≤ l.place;
  high : l.place ≤ max l.begin l.end;
  same : l.labels.items ≡ l.initial.labels.items ++ slice_range l.initial.labels.items l.begin l.place;
}

abbrev pub decreases-loop-place : goal.decreases-loop-place
decreases-loop-place l = l.end - l.place
