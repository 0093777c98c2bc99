use Rattle.std.proofs.Common.{◌≡◌, take}
use Rattle.std.specs.List.{flat_map}
use Rattle.mm_proof.specs.Numbered.{spell}
use Rattle.mm_proof.proofs.spelling.letters.Given as goal

abbrev pub invariant-loop-step : goal.invariant-loop-step
invariant-loop-step l = l.out.items ≡ flat_map spell (take l.step-index l.steps)
