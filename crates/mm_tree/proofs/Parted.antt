-- A part of a tree, and a tree in the place of a step.
use Rattle.std.proofs.Common.{◌≡◌, ℕ, ◌+◌, ◌≤◌, [], sym, ◌∙◌, ap, arith}
use Rattle.mm_plain.specs.Shape.{size_of, height_of, step_at, depth_at}
use Rattle.mm_plain.proofs.Parts.{size-part, height-part}
use Rattle.mm_tree.specs.Lines.{Line}
use Rattle.mm_tree.specs.Meanings.{mean, count, tall, youngest}
use Rattle.mm_tree.specs.Versions.{IsSound}
use Rattle.mm_tree.specs.declared.timed.TimedTree.{TimedTree}
use Rattle.mm_tree.proofs.Shapes.{size_of-mean, height_of-mean}

-- a part may be a root where the whole may
pub part-sound : (x y : TimedTree) (k n m next : ℕ) → ((line : Line) → mean y line ≡ step_at (mean x line) k) → youngest y ≤ youngest x → 1 ≤ k → k ≤ count x → n ≡ m → IsSound x m next → IsSound y n next
part-sound x y k n m next same young h g e s =
    let born = s.born in
    let few = s.few in
    let low = s.low in
    let within : k ≤ size_of (mean x []) = omega (arith, g, size_of-mean [] x) in
    record {
      born = omega (arith, born, young, e);
      few = omega (arith, few, size_of-mean [] x, size_of-mean [] y, ap size_of (same []), size-part (mean x []) k h within);
      low = omega (arith, low, height_of-mean [] x, height_of-mean [] y, ap height_of (same []), height-part (mean x []) k h within);
      first = s.first;
      last = s.last;
    }
