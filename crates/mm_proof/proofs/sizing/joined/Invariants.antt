use Rattle.std.proofs.Common.{◌≡◌, ◌+◌, ◌≤◌, min, max, drop}
use Rattle.mm_proof.specs.Shapes.{most_told, total, greatest}
use Rattle.mm_proof.proofs.sizing.joined.Given as goal

abbrev pub invariant-loop-child : goal.invariant-loop-child
invariant-loop-child l = record {
  steps : min most_told (l.steps + total (drop l.child-index l.children)) ≡ min most_told (1 + total l.children);
  small : l.steps ≤ most_told;
  height : max l.height (greatest (drop l.child-index l.children)) ≡ greatest l.children;
}
