use Rattle.std.proofs.Common.{◌≡◌, length}
use Rattle.mm_tokens.specs.Pieces.{pieces_of, open_in}
use Rattle.mm_scope.specs.Contexts.{state_of, answers, add_to}
use Rattle.mm_scope.specs.Reading.{read_from}
use Rattle.mm_scope.proofs.reading.read_pieces.Given as goal

abbrev pub invariant-loop-piece : goal.invariant-loop-piece
invariant-loop-piece l =
    (l.scanner.bytes ≡ l.bytes)
    × (read_from add_to answers l.bytes (state_of l.reader) l.scanner.left ≡ read_from add_to answers l.bytes (state_of l.fn.reader) (pieces_of l.bytes))
    × (open_in l.scanner.left ≡ open_in (pieces_of l.bytes))

abbrev pub decreases-loop-piece : goal.decreases-loop-piece
decreases-loop-piece l = length l.scanner.left
