use Rattle.std.proofs.Common.{◌≡◌, ◌+◌, drop, slice_get}
use Rattle.mm_scope.specs.Contents.{distinct_at}
use Rattle.mm_plain.specs.Shape.{steps_of}
use Rattle.mm_save.specs.Clashes.{clashes_from, clashes_in}
use Rattle.mm_save.proofs.clashes.first_clash.Given as goal

abbrev pub invariant-loop-place : goal.invariant-loop-place
invariant-loop-place l =
    slice_get (clashes_from l.db (distinct_at l.db l.fn.at.0) (l.place + 1) (drop l.place (steps_of l.tree.proof.plain))) 0
    ≡ slice_get (clashes_in l.db (distinct_at l.db l.fn.at.0) l.tree.proof.plain) 0
