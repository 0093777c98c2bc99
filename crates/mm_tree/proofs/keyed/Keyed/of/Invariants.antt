use Rattle.std.proofs.Common.{◌≡◌, take}
use Rattle.mm_tree.specs.Keyed.{IsKeyed}
use Rattle.mm_tree.proofs.keyed.Keyed.of.Given as goal

abbrev pub invariant-loop-theta : goal.invariant-loop-theta
invariant-loop-theta l = record {
  place : l.place ≡ l.theta-index;
  done : IsKeyed l.keyed (take l.theta-index l.bindings);
}
