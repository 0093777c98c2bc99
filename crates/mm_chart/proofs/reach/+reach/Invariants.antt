use Rattle.std.proofs.Common.{◌<◌, ◌≤◌, ◌+◌, ◌-◌, ◌*◌, length}
use Rattle.mm_chart.proofs.Idle.{Tried}
use Rattle.mm_chart.proofs.reach.+reach.Given as goal

abbrev pub decreases-reach : goal.decreases-reach
decreases-reach l = 2 * length l.items.now

abbrev pub decreases-reach_on : goal.decreases-reach_on
decreases-reach_on l = 2 * length l.rest.now + 1

abbrev pub invariant-reach_on-loop-next : goal.invariant-reach_on-loop-next
invariant-reach_on-loop-next l = record {
  from : l.at ≤ l.place;
  within : l.place ≤ length l.text;
  later : l.last < l.end;
  tried : Tried l.text l.rows l.rest l.code l.at l.last l.place l.end;
}

abbrev pub decreases-reach_on-loop-next : goal.decreases-reach_on-loop-next
decreases-reach_on-loop-next l = length l.text - l.place
