use Rattle.std.proofs.Common.{◌≡◌, ◌+◌, length}
use Rattle.mm_tokens.specs.Pieces.{pieces_of, tokens_in}
use Rattle.mm_proof.specs.Decoding.{steps_from}
use Rattle.mm_proof.specs.Steps.{AreSound}
use Rattle.mm_proof.proofs.Decodes.{spelled_on}
use Rattle.mm_proof.proofs.decoder.steps_in.Given as goal

abbrev pub invariant-loop-token : goal.invariant-loop-token
invariant-loop-token l = record {
  bytes : l.scanner.bytes ≡ l.proof;
  sound : AreSound l.db l.steps.items;
  so_far : spelled_on l.db l.id.0 l.proof (length l.steps.items + 1) l.steps.items (tokens_in l.scanner.left) ≡ steps_from l.db l.id.0 l.proof 1 (tokens_in (pieces_of l.proof));
}

abbrev pub decreases-loop-token : goal.decreases-loop-token
decreases-loop-token l = length l.scanner.left
