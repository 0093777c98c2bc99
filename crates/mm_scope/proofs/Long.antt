-- A longer file is judged by its first bytes.
use Rattle.std.proofs.Common.{◌+◌, ◌≡◌, ℕ, suc, Bool, true, false, List, Option, None, Some, length, take, nat_lt, position, Result, Ok, Err, is_ok, refl, ap, ◌∙◌, arith}
use Rattle.std.proofs.lemmas.Grind.{common_steps}
use Rattle.std.proofs.lemmas.Bool.{false≢true}
use Rattle.mm_tokens.specs.Bytes.{is_bad}
use Rattle.mm_tokens.specs.Pieces.{pieces_of, open_in}
use Rattle.mm_scope.specs.Contents.{is_read}
use Rattle.mm_scope.specs.Databases.{database_of, read_by, at_the_end, nothing_read}
use Rattle.mm_scope.specs.Events.{Event, put}
use Rattle.mm_scope.specs.Judged.{is_long, judged, clean, most_bytes}
use Rattle.mm_scope.specs.Looks.{look_back}
use Rattle.mm_scope.specs.Reading.{after, read_from}
use Rattle.mm_scope.specs.Steps.{State}
use Rattle.mm_scope.specs.declared.fault.ReadFault.{ReadFault}

pub take_twice : {A : Type 0} (k : ℕ) (l : List A) → take k (take k l) ≡ take k l
take_twice k l = grind (arith, common_steps)

more_left : {A : Type 0} (k m : ℕ) (l : List A) → m ≡ suc k → nat_lt k (length (take m l)) ≡ nat_lt k (length l)
more_left k m l e = grind (arith, common_steps, e)

pub same_database : (bytes : List ℕ) → database_of (take (most_bytes + 1) bytes) ≡ database_of bytes
unfolding database_of
same_database bytes =
    ap (λ b. read_by b (is_long (take (most_bytes + 1) bytes))) (take_twice (most_bytes + 1) bytes)
    ∙ ap (read_by (judged bytes)) (more_left most_bytes (most_bytes + 1) bytes refl)

end_refused : (s : State (List Event)) (bad : Option ℕ) (long : Bool) (unclosed : Option ℕ) → long ≡ true → is_ok (at_the_end s bad long unclosed) ≡ false
end_refused s (Some p) long unclosed e = refl
end_refused s None true unclosed e = refl
end_refused s None false unclosed e = absurd (false≢true e)

after_refused : (r : Result (State (List Event)) ReadFault) (f : State (List Event) → Result (List Event) ReadFault)
    → ((s : State (List Event)) → is_ok (f s) ≡ false) → is_ok (after r f) ≡ false
after_refused (Ok s) f h = h s
after_refused (Err e) f h = refl

pub long_refused : (bytes : List ℕ) → is_long bytes ≡ true → is_read bytes ≡ false
unfolding is_read database_of
long_refused bytes e =
    after_refused (read_from put look_back (clean (judged bytes)) nothing_read (pieces_of (clean (judged bytes)))) _
    (λ s. end_refused s (position is_bad (judged bytes)) (is_long bytes) (open_in (pieces_of (clean (judged bytes)))) e)
