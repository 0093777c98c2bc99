-- What the bytes of a database say, or the first fault, by looking back (Metamath book, section 4.1).
use Rattle.std.specs.Prelude.{ℕ, Bool, true, false, List, [], ◌∷◌, Option, None, Some, Result, Ok, Err, position}
use Rattle.mm_tokens.specs.Bytes.{is_bad}
use Rattle.mm_tokens.specs.Pieces.{pieces_of, open_in}
use Rattle.mm_scope.specs.Judged.{most_bytes, is_long, judged, clean}
use Rattle.mm_scope.specs.Events.{Event, put, open_blocks}
use Rattle.mm_scope.specs.Looks.{look_back}
use Rattle.mm_scope.specs.Steps.{State}
use Rattle.mm_scope.specs.Reading.{after, read_from}
use Rattle.mm_scope.specs.declared.mode.Mode.{Mode}
use Rattle.mm_scope.specs.declared.mode.Mode.TheVariants as mode
use Rattle.mm_scope.specs.declared.fault.ReadFault.{ReadFault}
use Rattle.mm_scope.specs.declared.fault.ReadFault.TheVariants as fault

-- before the first token
abbrev pub nothing_read : State (List Event)
nothing_read = record { context = []; mode = mode.Start; begun = 0; label = []; described = None; buffer = []; proof = 0; comment = None }

abbrev pub unless_begun : State (List Event) → Mode → Result (List Event) ReadFault
unless_begun s mode.Start = Ok s.context
unless_begun s _ = Err (fault.NotClosed s.begun)

-- the innermost block that is open is the fault
abbrev pub unless_open : State (List Event) → List ℕ → Result (List Event) ReadFault
unless_open s [] = unless_begun s s.mode
unless_open s (p ∷ ps) = Err (fault.BlockOpen p)

abbrev pub at_end_of_file : State (List Event) → Result (List Event) ReadFault
at_end_of_file s = unless_open s (open_blocks s.context)

-- No token's fault stands before these. A bad byte shows at its place, a byte too many after it, an open comment at
-- the end of the file.
abbrev pub at_the_end : State (List Event) → Option ℕ → Bool → Option ℕ → Result (List Event) ReadFault
at_the_end s (Some p) long unclosed = Err (fault.BadByte p)
at_the_end s None true unclosed = Err (fault.TooLong most_bytes)
at_the_end s None false (Some p) = Err (fault.CommentOpen p)
at_the_end s None false None = at_end_of_file s

-- what judged bytes say, of a longer file or not
abbrev pub read_by : List ℕ → Bool → Result (List Event) ReadFault
read_by bytes long =
    after (read_from put look_back (clean bytes) nothing_read (pieces_of (clean bytes)))
    (λ s. at_the_end s (position is_bad bytes) long (open_in (pieces_of (clean bytes))))

-- the events, the newest first, or the fault that shows first
unfoldable pub database_of : List ℕ → Result (List Event) ReadFault
database_of bytes = read_by (judged bytes) (is_long bytes)
