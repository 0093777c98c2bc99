use Rattle.std.proofs.Common.{length}
use Rattle.mm_tree.specs.Plans.{grove_of}
use Rattle.mm_edit.specs.LaidOut.{last_targets}
use Rattle.mm_edit.proofs.LayingLemmas.{HasValues}
use Rattle.mm_edit.proofs.laying.values.Given as goal

abbrev pub invariant-loop-i : goal.invariant-loop-i
invariant-loop-i l = HasValues l.db l.set l.ids (last_targets (grove_of l.plan) (length l.ids)) l.i l.sigma
