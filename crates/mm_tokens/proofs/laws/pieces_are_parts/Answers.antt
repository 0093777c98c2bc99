use Rattle.mm_tokens.specs.Pieces.{pieces_of}
use Rattle.mm_tokens.proofs.Words.{parts_of}
use Rattle.mm_tokens.proofs.OnlyParts.{only_parts}
use Rattle.mm_tokens.proofs.laws.pieces_are_parts.Goals as goal

pub returns-clause-only : goal.returns-clause-only
returns-clause-only c = λ pieces parts. only_parts c.args.bytes.now 0 pieces (pieces_of c.args.bytes.now) parts (parts_of c.args.bytes.now)
