-- At the end of a database no block is open.
use Rattle.std.proofs.Common.{◌≡◌, ℕ, Bool, true, false, List, [], ◌∷◌, Option, None, Some, position, Result, Ok, Err, refl}
use Rattle.mm_tokens.specs.Bytes.{is_bad}
use Rattle.mm_tokens.specs.Pieces.{pieces_of, open_in}
use Rattle.mm_scope.specs.Contents.{events_in, events_of}
use Rattle.mm_scope.specs.Databases.{nothing_read, at_the_end, unless_open, unless_begun, database_of}
use Rattle.mm_scope.specs.Events.{Event, put, open_blocks}
use Rattle.mm_scope.specs.Judged.{is_long, judged, clean}
use Rattle.mm_scope.specs.Looks.{look_back}
use Rattle.mm_scope.specs.Reading.{after, read_from}
use Rattle.mm_scope.specs.Steps.{State}
use Rattle.mm_scope.specs.declared.fault.ReadFault.{ReadFault}
use Rattle.mm_scope.specs.declared.mode.Mode.{Mode}
use Rattle.mm_scope.specs.declared.mode.Mode.TheVariants as mode
use Rattle.mm_plain.proofs.Fine.{IfFine}

abbrev AreClosed : List Event → Type 0
AreClosed past = open_blocks past ≡ []

closed_begun : (s : State (List Event)) (m : Mode) → AreClosed s.context → IfFine (unless_begun s m) AreClosed
closed_begun s mode.Start h = h
closed_begun s _ h = tt

closed_open : (s : State (List Event)) (ps : List ℕ) → open_blocks s.context ≡ ps → IfFine (unless_open s ps) AreClosed
closed_open s [] h = closed_begun s s.mode h
closed_open s (p ∷ ps) h = tt

closed_end : (s : State (List Event)) (bad : Option ℕ) (long : Bool) (unclosed : Option ℕ) → IfFine (at_the_end s bad long unclosed) AreClosed
closed_end s (Some p) long unclosed = tt
closed_end s None true unclosed = tt
closed_end s None false (Some p) = tt
closed_end s None false None = closed_open s (open_blocks s.context) refl

closed_after : (r : Result (State (List Event)) ReadFault) (bad : Option ℕ) (long : Bool) (unclosed : Option ℕ) → IfFine (after r (λ s. at_the_end s bad long unclosed)) AreClosed
closed_after (Ok s) bad long unclosed = closed_end s bad long unclosed
closed_after (Err e) bad long unclosed = tt

closed_events : (r : Result (List Event) ReadFault) → IfFine r AreClosed → AreClosed (events_in r)
unfolding open_blocks
closed_events (Ok past) h = h
closed_events (Err e) h = refl

pub all_closed : (bytes : List ℕ) → AreClosed (events_of bytes)
unfolding events_of database_of
all_closed bytes =
    let text : List ℕ = clean (judged bytes) in
    closed_events (database_of bytes)
    (closed_after (read_from put look_back text nothing_read (pieces_of text)) (position is_bad (judged bytes)) (is_long bytes) (open_in (pieces_of text)))
