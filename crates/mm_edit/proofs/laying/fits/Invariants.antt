use Rattle.std.proofs.Common.{◌≡◌, length, take}
use Rattle.mm_tree.specs.Plans.{grove_of}
use Rattle.mm_edit.specs.LaidOut.{last_targets}
use Rattle.mm_edit.proofs.LayingLemmas.{sources_of}
use Rattle.mm_edit.proofs.laying.fits.Given as goal

abbrev pub invariant-loop-i : goal.invariant-loop-i
invariant-loop-i l = take l.i (last_targets (grove_of l.plan) (length l.ids)) ≡ sources_of l.db l.sigma (take l.i l.ids)
