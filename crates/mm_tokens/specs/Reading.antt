-- The tokens and comments of a database, or its first fault.
use Rattle.std.specs.Prelude.{◌≡◌, ℕ, List, Option, None, Some, Result, Ok, Err, position}
use Rattle.mm_tokens.specs.Bytes.{is_bad}
use Rattle.mm_tokens.specs.Pieces.{pieces_of, tokens_in, comments_in, open_in}
use Rattle.mm_tokens.specs.Contents.{Contents}
use Rattle.mm_tokens.specs.declared.fault.TokenFault.{TokenFault}
use Rattle.mm_tokens.specs.declared.fault.TokenFault.TheVariants.{BadByte, CommentOpen, Memory}

-- A comment that is not ended shows at the end of the database, so a bad byte shows first wherever it stands.
abbrev pub unless_faulty : Option ℕ → Option ℕ → Contents → Result Contents TokenFault
unless_faulty (Some bad) unended contents = Err (BadByte bad)
unless_faulty None (Some unended) contents = Err (CommentOpen unended)
unless_faulty None None contents = Ok contents

-- the tokens outside comments and the comments, or the first fault
unfoldable pub tokens_of : List ℕ → Result Contents TokenFault
tokens_of bytes =
    let pieces = pieces_of bytes in
    unless_faulty (position is_bad bytes) (open_in pieces) (record { tokens = tokens_in pieces; comments = comments_in pieces })

-- what a call answered is what reading gives, unless memory ran out
abbrev pub GivesFault : TokenFault → Result Contents TokenFault → Type 0
GivesFault Memory reading = Unit {0}
GivesFault (BadByte p) reading = reading ≡ Err (BadByte p)
GivesFault (CommentOpen p) reading = reading ≡ Err (CommentOpen p)

abbrev pub Gives : Result Contents TokenFault → Result Contents TokenFault → Type 0
Gives (Ok contents) reading = reading ≡ Ok contents
Gives (Err fault) reading = GivesFault fault reading
