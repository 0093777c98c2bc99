use Rattle.std.proofs.Common.{◌≡◌, drop, slice_get}
use Rattle.std.specs.List.{flat_map}
use Rattle.mm_scope.specs.Contents.{stated_at}
use Rattle.mm_plain.specs.Shape.{step_at}
use Rattle.mm_plain.specs.Sources.{sigma_of}
use Rattle.mm_save.specs.Clashes.{clashes_under}
use Rattle.mm_save.proofs.clashes.clash_at.Given as goal

abbrev pub invariant-loop-pair : goal.invariant-loop-pair
invariant-loop-pair l =
    slice_get (flat_map (clashes_under l.parted l.step (sigma_of (step_at l.tree.proof.plain l.step))) (drop l.pair-index (stated_at l.db l.fn.id.0).pairs)) 0
    ≡ slice_get (flat_map (clashes_under l.parted l.step (sigma_of (step_at l.tree.proof.plain l.step))) (stated_at l.db l.fn.id.0).pairs) 0
