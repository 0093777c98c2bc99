use Rattle.std.proofs.Common.{◌≡◌, take}
use Rattle.mm_improve.specs.Steps.{values_by}
use Rattle.mm_improve.proofs.laying.values_by.Given as goal

abbrev pub invariant-loop-i : goal.invariant-loop-i
invariant-loop-i l = l.sigma ≡ take l.i (values_by l.text l.keys l.kids)
