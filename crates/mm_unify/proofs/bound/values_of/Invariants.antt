use Rattle.std.proofs.Common.{◌≡◌, take}
use Rattle.mm_unify.specs.Unifying.{restricted}
use Rattle.mm_unify.specs.Parts.{parts_of}
use Rattle.mm_unify.proofs.bound.values_of.Given as goal

abbrev pub invariant-loop-number : goal.invariant-loop-number
invariant-loop-number l = l.each.items ≡ restricted (parts_of l.target l.path) (take l.number-index l.numbers)
