-- What the bytes of a database say, read with tables.
use Rattle.std.specs.Prelude.{ℕ, ◌-◌, List, Option, None, Some, Result, Ok, Err, length, slice_get, position, Bool, true, false}
use Rattle.mm_tokens.specs.Bytes.{is_bad}
use Rattle.mm_tokens.specs.Pieces.{pieces_of, open_in}
use Rattle.mm_scope.specs.Judged.{most_bytes, is_long, judged, clean}
use Rattle.mm_scope.specs.Contexts.{Context, answers, add_to, empty_state}
use Rattle.mm_scope.specs.Steps.{State}
use Rattle.mm_scope.specs.Reading.{after, read_from}
use Rattle.mm_scope.specs.declared.mode.Mode.{Mode}
use Rattle.mm_scope.specs.declared.mode.Mode.TheVariants as mode
use Rattle.mm_scope.specs.declared.ending.Block.{Block}
use Rattle.mm_scope.specs.declared.fault.ReadFault.{ReadFault}
use Rattle.mm_scope.specs.declared.fault.ReadFault.TheVariants as fault

abbrev pub unless_begun : State Context → Mode → Result (State Context) ReadFault
unless_begun s mode.Start = Ok s
unless_begun s _ = Err (fault.NotClosed s.begun)

abbrev pub unless_open : State Context → Option Block → Result (State Context) ReadFault
unless_open s (Some b) = Err (fault.BlockOpen b.place)
unless_open s None = unless_begun s s.mode

abbrev pub at_end_of_file : State Context → Result (State Context) ReadFault
at_end_of_file s = unless_open s (slice_get s.context.blocks (length s.context.blocks - 1))

abbrev pub at_the_end : State Context → Option ℕ → Bool → Option ℕ → Result (State Context) ReadFault
at_the_end s (Some p) long unclosed = Err (fault.BadByte p)
at_the_end s None true unclosed = Err (fault.TooLong most_bytes)
at_the_end s None false (Some p) = Err (fault.CommentOpen p)
at_the_end s None false None = at_end_of_file s

abbrev pub read_by : List ℕ → Bool → Result (State Context) ReadFault
read_by bytes long =
    after (read_from add_to answers (clean bytes) empty_state (pieces_of (clean bytes)))
    (λ s. at_the_end s (position is_bad bytes) long (open_in (pieces_of (clean bytes))))

unfoldable pub tables_of : List ℕ → Result (State Context) ReadFault
tables_of bytes = read_by (judged bytes) (is_long bytes)
