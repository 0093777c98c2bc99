use Rattle.std.proofs.Common.{◌≡◌, ◌≤◌, length, nat_eq}
use Rattle.std.specs.List.{list_any}
use Rattle.mm_tables.specs.Trails.{trail, LinksFall}
use Rattle.mm_tables.proofs.trail.Trail.contains.Given as goal

abbrev pub invariant-loop-top : goal.invariant-loop-top
invariant-loop-top l = record {
  falls : LinksFall l.nodes;
  within : l.top ≤ length l.nodes;
  same : list_any (nat_eq l.value) (trail l.nodes l.top) ≡ list_any (nat_eq l.value) l.self;
}

abbrev pub decreases-loop-top : goal.decreases-loop-top
decreases-loop-top l = l.top
