use Rattle.std.proofs.Common.{◌≡◌, ◌≤◌, ◌++◌, length, reverse}
use Rattle.mm_tables.specs.Trails.{trail, LinksFall}
use Rattle.mm_tables.proofs.trail.Trail.to_vec.Given as goal

abbrev pub invariant-loop-top : goal.invariant-loop-top
invariant-loop-top l = record {
  falls : LinksFall l.nodes;
  within : l.top ≤ length l.nodes;
  same : trail l.nodes l.top ++ reverse l.values.items ≡ l.self;
}

abbrev pub decreases-loop-top : goal.decreases-loop-top
decreases-loop-top l = l.top
