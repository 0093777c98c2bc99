use Rattle.std.proofs.Common.{◌≡◌, ◌≤◌, length}
use Rattle.mm_tokens.specs.Pieces.{tokens_in}
use Rattle.mm_proof.proofs.token.next_token.Given as goal

abbrev pub invariant-loop-piece : goal.invariant-loop-piece
invariant-loop-piece l = record {
  bytes : l.scanner.bytes ≡ l.initial.scanner.bytes;
  same : tokens_in l.scanner.left ≡ tokens_in l.initial.scanner.left;
  shorter : length l.scanner.left ≤ length l.initial.scanner.left;
}

abbrev pub decreases-loop-piece : goal.decreases-loop-piece
decreases-loop-piece l = length l.scanner.left
