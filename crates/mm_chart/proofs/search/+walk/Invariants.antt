use Rattle.std.proofs.Common.{◌≡◌, ◌≤◌, ◌-◌, ◌+◌, ◌*◌, length, IfSome}
use Rattle.mm_chart.specs.Items.{fits}
use Rattle.mm_chart.specs.Charts.{goals_of, AreWithin}
use Rattle.mm_chart.proofs.Walks.{Extended}
use Rattle.mm_chart.proofs.search.+walk.Given as goal

abbrev pub decreases-walk : goal.decreases-walk
decreases-walk l = 2 * length l.items.now

abbrev pub decreases-extend : goal.decreases-extend
decreases-extend l = 2 * length l.rest.now + 1

abbrev pub invariant-extend-loop-next : goal.invariant-extend-loop-next
invariant-extend-loop-next l = record {
  from : l.at ≤ l.last;
  within : l.last ≤ l.to;
  parts : l.parts.items ≡ l.initial.parts.items;
  placed : IfSome l.found (λ x. AreWithin l.text x.1);
  told : Extended (fits l.rules l.pairs) l.text l.rows l.rest (goals_of l.text l.initial.parts.items) l.code l.at l.to l.so_far l.last l.found;
}

abbrev pub decreases-extend-loop-next : goal.decreases-extend-loop-next
decreases-extend-loop-next l = l.to - l.last
