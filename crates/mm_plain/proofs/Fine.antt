-- What a step of the reading keeps, if there is no fault.
use Rattle.std.proofs.Common.{◌≡◌, ◌<◌, ◌≤◌, ◌-◌, ℕ, Bool, true, false, cond, List, [], ◌∷◌, length, drop, Option, None, Some, position, Result, Ok, Err, refl, arith, length-drop}
use Rattle.std.proofs.lemmas.List.{length-take}
use Rattle.std.specs.List.{AllByRecursion as ByRecursion}
use Rattle.mm_tokens.specs.Bytes.{is_bad}
use Rattle.mm_tokens.specs.Parts.{AreParts}
use Rattle.mm_tokens.specs.Pieces.{pieces_of, open_in}
use Rattle.mm_tokens.specs.declared.pieces.Token.{Token as Run}
use Rattle.mm_tokens.specs.declared.pieces.Span.{Span}
use Rattle.mm_tokens.specs.declared.pieces.Piece.{Piece}
use Rattle.mm_tokens.specs.declared.pieces.Piece.TheVariants.{Token, Comment, Open}
use Rattle.mm_tokens.proofs.Words.{parts_of}
use Rattle.mm_scope.specs.Contents.{events_in, events_of}
use Rattle.mm_scope.specs.Databases.{nothing_read, at_the_end, unless_open, unless_begun, database_of}
use Rattle.mm_scope.specs.Events.{Event, put, open_blocks}
use Rattle.mm_scope.specs.Judged.{is_long, judged, clean}
use Rattle.mm_scope.specs.Looks.{look_back}
use Rattle.mm_scope.specs.Reading.{text_of, after, step, read_from, with_comment, without_comment}
use Rattle.mm_scope.specs.Steps.{State, unless}
use Rattle.mm_scope.specs.declared.fault.ReadFault.{ReadFault}
use Rattle.mm_scope.specs.declared.mode.Mode.{Mode}
use Rattle.mm_scope.specs.declared.mode.Mode.TheVariants as mode

abbrev pub IfFine : {A : Type 0} → Result A ReadFault → (A → Type 0) → Type 0
IfFine (Ok x) P = P x
IfFine (Err e) P = Unit {0}

abbrev pub AllOff : List (Bool × ReadFault) → Type 0
AllOff [] = Unit {0}
AllOff (c ∷ cs) = (c.0 ≡ false) × AllOff cs

pub fine_if : {A : Type 0} (b : Bool) (x y : Result A ReadFault) (P : A → Type 0) → (b ≡ true → IfFine x P) → (b ≡ false → IfFine y P) → IfFine (cond b x y) P
fine_if true x y P on off = on refl
fine_if false x y P on off = off refl

pub fine_unless : {A : Type 0} (cs : List (Bool × ReadFault)) (x : A) (P : A → Type 0) → (AllOff cs → P x) → IfFine (unless cs (Ok x)) P
fine_unless [] x P h = h tt
fine_unless (c ∷ cs) x P h = fine_if c.0 (Err c.1) (unless cs (Ok x)) P (λ _. tt) (λ e. fine_unless cs x P (λ off. h (e, off)))

-- each token has a text
abbrev HasText : List ℕ → Piece → Type 0
HasText bytes (Token k) = 0 < length (text_of bytes k)
HasText bytes (Comment c) = Unit {0}
HasText bytes (Open p) = Unit {0}

token_text : (bytes : List ℕ) (k : Run) → k.start < k.end → k.end ≤ length bytes → 0 < length (text_of bytes k)
token_text bytes k some within = omega (arith, some, within, length-take (k.end - k.start) (drop k.start bytes), length-drop k.start bytes)

have_texts : (bytes : List ℕ) (at : ℕ) (ps : List Piece) → AreParts bytes at ps → ByRecursion (HasText bytes) ps
have_texts bytes at [] h = tt
have_texts bytes at (Token k ∷ ps) h = (token_text bytes k h.2.run.some h.2.run.within, have_texts bytes k.end ps h.3)
have_texts bytes at (Comment c ∷ ps) h = (tt, have_texts bytes c.end ps h.3)
have_texts bytes at (Open p ∷ ps) h = (tt, have_texts bytes (length bytes) ps h.3)

-- what holds at the start and after each step over a text, whatever the comment, holds at the end
module _ (Good : State (List Event) → Type 0)
    (commented : (s : State (List Event)) (c : Span) → Good s → Good (with_comment s c))
    (uncommented : (s : State (List Event)) → Good s → Good (without_comment s))
    (kept : (bytes : List ℕ) (s : State (List Event)) (k : Run) → 0 < length (text_of bytes k) → Good s → IfFine (step put look_back bytes s k) Good) where
  pub fine_read : (bytes : List ℕ) (ps : List Piece) (s : State (List Event)) → ByRecursion (HasText bytes) ps → Good s → IfFine (read_from put look_back bytes s ps) Good
  unfolding read_from
  fine_read bytes [] s texts good = good
  fine_read bytes (Open p ∷ ps) s texts good = good
  fine_read bytes (Comment c ∷ ps) s texts good = fine_read bytes ps (with_comment s c) texts.1 (commented s c good)
  fine_read bytes (Token k ∷ ps) s texts good = by (step put look_back bytes s k) (kept bytes s k texts.0 good) (λ t g. fine_read bytes ps (without_comment t) texts.1 (uncommented t g))
    where
      by : (r : Result (State (List Event)) ReadFault) → IfFine r Good
          → ((t : State (List Event)) → Good t → IfFine (read_from put look_back bytes (without_comment t) ps) Good)
          → IfFine (after r (λ t. read_from put look_back bytes (without_comment t) ps)) Good
      by (Ok t) g later = later t g
      by (Err e) g later = tt

  -- and what then holds of the events holds of those of each database
  module _ (P : List Event → Type 0) (none : P []) (reached : (s : State (List Event)) → Good s → P s.context) (start : Good nothing_read) where
    begun_fine : (s : State (List Event)) (m : Mode) → P s.context → IfFine (unless_begun s m) P
    begun_fine s mode.Start h = h
    begun_fine s _ h = tt

    open_fine : (s : State (List Event)) (ps : List ℕ) → P s.context → IfFine (unless_open s ps) P
    open_fine s [] h = begun_fine s s.mode h
    open_fine s (p ∷ ps) h = tt

    the_end_fine : (s : State (List Event)) (bad : Option ℕ) (long : Bool) (unclosed : Option ℕ) → P s.context → IfFine (at_the_end s bad long unclosed) P
    the_end_fine s (Some p) long unclosed h = tt
    the_end_fine s None true unclosed h = tt
    the_end_fine s None false (Some p) h = tt
    the_end_fine s None false None h = open_fine s (open_blocks s.context) h

    after_fine : (r : Result (State (List Event)) ReadFault) → IfFine r Good → (bad : Option ℕ) (long : Bool) (unclosed : Option ℕ)
        → IfFine (after r (λ s. at_the_end s bad long unclosed)) P
    after_fine (Ok s) g bad long unclosed = the_end_fine s bad long unclosed (reached s g)
    after_fine (Err e) g bad long unclosed = tt

    events_fine : (r : Result (List Event) ReadFault) → IfFine r P → P (events_in r)
    events_fine (Ok past) h = h
    events_fine (Err e) h = none

    pub of_each : (bytes : List ℕ) → P (events_of bytes)
    unfolding events_of database_of
    of_each bytes =
        let text : List ℕ = clean (judged bytes) in
        events_fine (database_of bytes) (after_fine (read_from put look_back text nothing_read (pieces_of text)) (fine_read text (pieces_of text) nothing_read (have_texts text 0 (pieces_of text) (parts_of text)) start)
        (position is_bad (judged bytes)) (is_long bytes) (open_in (pieces_of text)))
