use Rattle.std.proofs.Common.{length, ◌≡◌, ◌++◌}
use Rattle.mm_tokens.specs.Pieces.{pieces_of, tokens_in, comments_in, open_in}
use Rattle.mm_tokens.proofs.reading.tokens.Given as goal

abbrev pub invariant-loop-piece : goal.invariant-loop-piece
invariant-loop-piece l = record {
  tokens : l.tokens.items ++ tokens_in l.scanner.left ≡ tokens_in (pieces_of l.bytes);
  comments : l.comments.items ++ comments_in l.scanner.left ≡ comments_in (pieces_of l.bytes);
  unended : open_in l.scanner.left ≡ open_in (pieces_of l.bytes);
}

abbrev pub decreases-loop-piece : goal.decreases-loop-piece
decreases-loop-piece l = length l.scanner.left
