use Rattle.std.proofs.Common.{◌≡◌, drop}
use Rattle.mm_improve.specs.Grammars.{place}
use Rattle.mm_improve.proofs.Placing.{place_from}
use Rattle.mm_improve.proofs.conclusion.place_of.Given as goal

abbrev pub invariant-loop-i : goal.invariant-loop-i
invariant-loop-i l = place_from l.i (drop l.i l.keys) l.number ≡ place l.keys l.number
