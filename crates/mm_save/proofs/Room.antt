-- A database that is read is not too long.
use Rattle.std.proofs.Common.{◌≡◌, ◌≤◌, ℕ, Bool, true, false, List, Option, None, Some, length, nat_lt, position, Result, Ok, Err, is_ok, refl, sym, ◌∙◌, arith}
use Rattle.std.proofs.lemmas.Bool.{false≢true}
use Rattle.mm_tokens.specs.Bytes.{is_bad}
use Rattle.mm_tokens.specs.Pieces.{pieces_of, open_in}
use Rattle.mm_scope.specs.Contents.{is_read}
use Rattle.mm_scope.specs.Databases.{database_of, at_the_end, nothing_read}
use Rattle.mm_scope.specs.Events.{Event, put}
use Rattle.mm_scope.specs.Judged.{is_long, judged, clean, most_bytes}
use Rattle.mm_scope.specs.Looks.{look_back}
use Rattle.mm_scope.specs.Reading.{after, read_from}
use Rattle.mm_scope.specs.Steps.{State}
use Rattle.mm_scope.specs.declared.fault.ReadFault.{ReadFault}

end_refused : (s : State (List Event)) (bad : Option ℕ) (long : Bool) (unclosed : Option ℕ) → long ≡ true → is_ok (at_the_end s bad long unclosed) ≡ false
end_refused s (Some p) long unclosed e = refl
end_refused s None true unclosed e = refl
end_refused s None false unclosed e = absurd (false≢true e)

after_refused : (r : Result (State (List Event)) ReadFault) (f : State (List Event) → Result (List Event) ReadFault)
    → ((s : State (List Event)) → is_ok (f s) ≡ false) → is_ok (after r f) ≡ false
after_refused (Ok s) f h = h s
after_refused (Err e) f h = refl

long_refused : (bytes : List ℕ) → is_long bytes ≡ true → is_read bytes ≡ false
unfolding is_read database_of
long_refused bytes e =
    after_refused (read_from put look_back (clean (judged bytes)) nothing_read (pieces_of (clean (judged bytes)))) _
    (λ s. end_refused s (position is_bad (judged bytes)) (is_long bytes) (open_in (pieces_of (clean (judged bytes)))) e)

no_more : (n m : ℕ) → nat_lt m n ≡ false → n ≤ m
no_more n m h = grind arith

short_by : (bytes : List ℕ) (b : Bool) → is_long bytes ≡ b → is_read bytes ≡ true → b ≡ false
short_by bytes true e read = absurd (false≢true (sym (long_refused bytes e) ∙ read))
short_by bytes false e read = refl

pub read_room : (bytes : List ℕ) → is_read bytes ≡ true → length bytes ≤ most_bytes
read_room bytes read = no_more (length bytes) most_bytes (short_by bytes (is_long bytes) refl read)
