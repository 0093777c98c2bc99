use Rattle.std.proofs.Common.{◌≡◌, ◌≤◌, ◌*◌, take, length}
use Rattle.std.specs.List.{flat_map}
use Rattle.mm_proof.specs.Numbered.{spell}
use Rattle.mm_proof.proofs.spelling.letters_len.Given as goal

abbrev pub invariant-loop-step : goal.invariant-loop-step
invariant-loop-step l = record {
  value : l.count ≡ length (flat_map spell (take l.step-index l.steps));
  small : l.count ≤ 64 * l.step-index;
}
