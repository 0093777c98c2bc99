-- The description of a statement is a comment of the bytes.
use Rattle.std.proofs.Common.{◌≤◌, ℕ, zero, suc, ◌+◌, Bool, true, false, cond, not, ◌||◌, List, [], ◌∷◌, ◌++◌, Option, None, Some, length, take, position, nat_lt, nat_eq, Result, Ok, Err, IfSome, arith}
use Rattle.std.proofs.lemmas.Grind.{common_steps}
use Rattle.std.specs.List.{list_any}
use Rattle.std.specs.Prelude.{slice_index_or}
use Rattle.mm_tokens.specs.Bytes.{is_bad}
use Rattle.mm_tokens.specs.Parts.{AreParts, IsComment}
use Rattle.mm_tokens.specs.Pieces.{pieces_of, open_in}
use Rattle.mm_tokens.specs.declared.pieces.Span.{Span}
use Rattle.mm_tokens.specs.declared.pieces.Piece.{Piece}
use Rattle.mm_tokens.specs.declared.pieces.Piece.TheVariants.{Token, Comment, Open}
use Rattle.mm_tokens.proofs.Words.{parts_of}
use Rattle.mm_scope.specs.Contents.{events_in, events_of, statements_of, stated_at}
use Rattle.mm_scope.specs.Databases.{database_of, read_by, at_the_end, unless_open, unless_begun, nothing_read}
use Rattle.mm_scope.specs.Events.{Event, put, constant, variable, float, essential, asserted, theorem, distinct, opened, closed, statements, open_blocks}
use Rattle.mm_scope.specs.Judged.{most_bytes, is_long, judged, clean, before_bad}
use Rattle.mm_scope.specs.Looks.{look_back}
use Rattle.mm_scope.specs.Reading.{text_of, after, step, read_from, with_comment, without_comment}
use Rattle.mm_stated.specs.Stated.{Stated, no_statement}
use Rattle.mm_scope.specs.Steps.{most_label, Answers, State, unless, symbol_checks, take_symbol, is_full, a_label, a_constant, a_variable, a_float, a_symbol, a_distinct, at_text, at_end, at_proof, unlabelled, at_constants, labelled, at_open, at_close, step_by}
use Rattle.mm_tokens.specs.Words.{is_bad_label, is_bad_symbol, word_of}
use Rattle.mm_tokens.specs.declared.word.Word.{Word}
use Rattle.mm_tokens.specs.declared.word.Word.TheVariants as word
use Rattle.mm_scope.specs.declared.mode.Mode.{Mode}
use Rattle.mm_scope.specs.declared.mode.Mode.TheVariants as mode
use Rattle.mm_scope.specs.declared.fault.ReadFault.{ReadFault}
use Rattle.mm_scope.proofs.Whole.{IfFine}

-- a comment, its marks included, stands among n bytes
abbrev pub Stands : ℕ → Option Span → Type 0
Stands n None = Unit {0}
Stands n (Some s) = (s.start + 4 ≤ s.end) × (s.end ≤ n)

abbrev pub AllStand : ℕ → List Stated → Type 0
AllStand n [] = Unit {0}
AllStand n (s ∷ ss) = Stands n s.described × AllStand n ss

abbrev pub EventsStand : ℕ → List Event → Type 0
EventsStand n [] = Unit {0}
EventsStand n (float l ss d ∷ past) = Stands n d × EventsStand n past
EventsStand n (essential l ss d ∷ past) = Stands n d × EventsStand n past
EventsStand n (asserted l ss d ∷ past) = Stands n d × EventsStand n past
EventsStand n (theorem l ss from to d ∷ past) = Stands n d × EventsStand n past
EventsStand n (_ ∷ past) = EventsStand n past

-- so far, each description and the last comment do
abbrev pub Good : ℕ → State (List Event) → Type 0
Good n s = EventsStand n s.context × Stands n s.described × Stands n s.comment

either : (n : ℕ) (b : Bool) (x y : Result (State (List Event)) ReadFault) → IfFine x (Good n) → IfFine y (Good n) → IfFine (cond b x y) (Good n)
either n true x y on off = on
either n false x y on off = off

unless_good : (n : ℕ) (cs : List (Bool × ReadFault)) (s : State (List Event)) → Good n s → IfFine (unless cs (Ok s)) (Good n)
unless_good n [] s g = g
unless_good n (c ∷ cs) s g = either n c.0 (Err c.1) (unless cs (Ok s)) tt (unless_good n cs s g)

a_label_good : (n : ℕ) (s : State (List Event)) (a : Answers) (t : List ℕ) (p : ℕ) → Good n s → IfFine (a_label s a t p) (Good n)
unfolding a_label
a_label_good n s a t p g =
    either n (is_bad_label t) _ _ tt (either n (a.label || a.known) _ _ tt (either n (nat_lt most_label (length t)) _ _ tt (g.0, g.2, g.2)))

a_float_good : (n : ℕ) (s : State (List Event)) (a : Answers) (p : ℕ) → Good n s → IfFine (a_float s a p) (Good n)
unfolding a_float
a_float_good n s a p g =
    either n (not (a.constant || a.active)) _ _ tt
    (either n (nat_eq (length s.buffer) 0) _ _ (either n a.constant _ _ g tt)
    (either n (nat_lt 1 (length s.buffer) || a.constant) _ _ tt (either n a.floated _ _ tt g)))

a_symbol_good : (n : ℕ) (s : State (List Event)) (a : Answers) (p : ℕ) → Good n s → IfFine (a_symbol s a p) (Good n)
unfolding a_symbol
a_symbol_good n s a p g = unless_good n (symbol_checks s a p) (take_symbol s a.number) g

a_distinct_good : (n : ℕ) (s : State (List Event)) (a : Answers) (p : ℕ) → Good n s → IfFine (a_distinct s a p) (Good n)
unfolding a_distinct
a_distinct_good n s a p g =
    either n (not (a.constant || a.active)) _ _ tt
    (either n (a.constant || list_any (nat_eq a.number) s.buffer) _ _ tt (either n (is_full s) _ _ tt g))

a_constant_good : (n : ℕ) (s : State (List Event)) (a : Answers) (t : List ℕ) (p : ℕ) → Good n s → IfFine (a_constant put s a t p) (Good n)
unfolding a_constant
a_constant_good n s a t p g =
    either n (is_bad_symbol t) _ _ tt (either n (a.known || a.label) _ _ tt (either n (is_full s) _ _ tt g))

a_variable_good : (n : ℕ) (s : State (List Event)) (a : Answers) (t : List ℕ) (p : ℕ) → Good n s → IfFine (a_variable put s a t p) (Good n)
unfolding a_variable
a_variable_good n s a t p g =
    either n (is_bad_symbol t) _ _ tt (either n (a.active || a.constant || a.label) _ _ tt (either n (is_full s) _ _ tt g))

at_text_good : (n : ℕ) (s : State (List Event)) (m : Mode) (a : Answers) (t : List ℕ) (p : ℕ) → Good n s → IfFine (at_text put s m a t p) (Good n)
unfolding at_text
at_text_good n s mode.Start a t p g = a_label_good n s a t p g
at_text_good n s mode.Labelled a t p g = tt
at_text_good n s mode.Constants a t p g = a_constant_good n s a t p g
at_text_good n s mode.Variables a t p g = a_variable_good n s a t p g
at_text_good n s mode.Distinct a t p g = a_distinct_good n s a p g
at_text_good n s mode.Float a t p g = a_float_good n s a p g
at_text_good n s mode.Essential a t p g = a_symbol_good n s a p g
at_text_good n s mode.Axiom a t p g = a_symbol_good n s a p g
at_text_good n s mode.Theorem a t p g = a_symbol_good n s a p g
at_text_good n s mode.Proof a t p g = g

at_end_good : (n : ℕ) (s : State (List Event)) (m : Mode) (p : ℕ) → Good n s → IfFine (at_end put s m p) (Good n)
unfolding at_end
at_end_good n s mode.Start p g = tt
at_end_good n s mode.Labelled p g = tt
at_end_good n s mode.Constants p g = either n (nat_eq (length s.buffer) 0) _ _ tt g
at_end_good n s mode.Variables p g = either n (nat_eq (length s.buffer) 0) _ _ tt g
at_end_good n s mode.Distinct p g = either n (nat_lt (length s.buffer) 2) _ _ tt g
at_end_good n s mode.Float p g = either n (nat_eq (length s.buffer) 2) _ _ ((g.1, g.0), g.1, g.2) tt
at_end_good n s mode.Essential p g = either n (nat_eq (length s.buffer) 0) _ _ tt ((g.1, g.0), g.1, g.2)
at_end_good n s mode.Axiom p g = either n (nat_eq (length s.buffer) 0) _ _ tt ((g.1, g.0), g.1, g.2)
at_end_good n s mode.Theorem p g = tt
at_end_good n s mode.Proof p g = ((g.1, g.0), g.1, g.2)

at_proof_good : (n : ℕ) (s : State (List Event)) (m : Mode) (p : ℕ) → Good n s → IfFine (at_proof s m p) (Good n)
unfolding at_proof
at_proof_good n s mode.Theorem p g = either n (nat_eq (length s.buffer) 0) _ _ tt g
at_proof_good n s _ p g = tt

unlabelled_good : (n : ℕ) (s : State (List Event)) (m k : Mode) (p : ℕ) → Good n s → IfFine (unlabelled s m k p) (Good n)
unfolding unlabelled
unlabelled_good n s mode.Start k p g = g
unlabelled_good n s mode.Labelled k p g = tt
unlabelled_good n s _ k p g = tt

at_constants_good : (n : ℕ) (s : State (List Event)) (m : Mode) (deep : Bool) (p : ℕ) → Good n s → IfFine (at_constants s m deep p) (Good n)
unfolding at_constants
at_constants_good n s mode.Start deep p g = either n deep _ _ tt g
at_constants_good n s mode.Labelled deep p g = either n deep _ _ tt tt
at_constants_good n s _ deep p g = tt

labelled_good : (n : ℕ) (s : State (List Event)) (m k : Mode) (p : ℕ) → Good n s → IfFine (labelled s m k p) (Good n)
unfolding labelled
labelled_good n s mode.Labelled k p g = g
labelled_good n s mode.Start k p g = tt
labelled_good n s _ k p g = tt

at_open_good : (n : ℕ) (s : State (List Event)) (m : Mode) (p : ℕ) → Good n s → IfFine (at_open put s m p) (Good n)
unfolding at_open
at_open_good n s mode.Start p g = g
at_open_good n s mode.Labelled p g = tt
at_open_good n s _ p g = tt

at_close_good : (n : ℕ) (s : State (List Event)) (m : Mode) (deep : Bool) (p : ℕ) → Good n s → IfFine (at_close put s m deep p) (Good n)
unfolding at_close
at_close_good n s mode.Start deep p g = either n deep _ _ g tt
at_close_good n s mode.Labelled deep p g = tt
at_close_good n s _ deep p g = tt

step_good : (n : ℕ) (s : State (List Event)) (a : Answers) (w : Word) (t : List ℕ) (p : ℕ) → Good n s → IfFine (step_by put s a w t p) (Good n)
unfolding step_by
step_good n s a word.Unknown t p g = tt
step_good n s a word.Inclusion t p g = tt
step_good n s a word.Text t p g = at_text_good n s s.mode a t p g
step_good n s a word.End t p g = at_end_good n s s.mode p g
step_good n s a word.Proof t p g = at_proof_good n s s.mode p g
step_good n s a word.Constants t p g = at_constants_good n s s.mode a.deep p g
step_good n s a word.Variables t p g = unlabelled_good n s s.mode mode.Variables p g
step_good n s a word.Distinct t p g = unlabelled_good n s s.mode mode.Distinct p g
step_good n s a word.Open t p g = at_open_good n s s.mode p g
step_good n s a word.Close t p g = at_close_good n s s.mode a.deep p g
step_good n s a word.Float t p g = labelled_good n s s.mode mode.Float p g
step_good n s a word.Essential t p g = labelled_good n s s.mode mode.Essential p g
step_good n s a word.Axiom t p g = labelled_good n s s.mode mode.Axiom p g
step_good n s a word.Theorem t p g = labelled_good n s s.mode mode.Theorem p g

comment_stands : (n : ℕ) (bytes : List ℕ) (c : Span) → length bytes ≤ n → IsComment bytes c.start c.end → Stands n (Some c)
comment_stands n bytes c fits is = (is.room, omega (arith, is.room, is.closes.run.within, fits))

then_good : (n : ℕ) (r : Result (State (List Event)) ReadFault) (f : State (List Event) → Result (State (List Event)) ReadFault) → IfFine r (Good n)
    → ((t : State (List Event)) → Good n t → IfFine (f t) (Good n)) → IfFine (after r f) (Good n)
then_good n (Ok t) f g later = later t g
then_good n (Err e) f g later = tt

read_good : (n : ℕ) (bytes : List ℕ) (at : ℕ) (ps : List Piece) (s : State (List Event)) → length bytes ≤ n → AreParts bytes at ps → Good n s
    → IfFine (read_from put look_back bytes s ps) (Good n)
unfolding read_from
read_good n bytes at [] s fits parts g = g
read_good n bytes at (Open p ∷ ps) s fits parts g = g
read_good n bytes at (Comment c ∷ ps) s fits parts g =
    read_good n bytes c.end ps (with_comment s c) fits parts.3 (g.0, g.1, comment_stands n bytes c fits parts.2)
read_good n bytes at (Token k ∷ ps) s fits parts g =
    then_good n (step put look_back bytes s k) (λ t. read_from put look_back bytes (without_comment t) ps)
    (step_good n s (look_back s.context (text_of bytes k)) (word_of (text_of bytes k)) (text_of bytes k) k.start g)
    (λ t h. read_good n bytes k.end ps (without_comment t) fits parts.3 (h.0, h.1, tt))

begun_good : (n : ℕ) (s : State (List Event)) (m : Mode) → EventsStand n s.context → IfFine (unless_begun s m) (EventsStand n)
begun_good n s mode.Start g = g
begun_good n s _ g = tt

open_good : (n : ℕ) (s : State (List Event)) (places : List ℕ) → EventsStand n s.context → IfFine (unless_open s places) (EventsStand n)
open_good n s [] g = begun_good n s s.mode g
open_good n s (p ∷ ps) g = tt

end_good : (n : ℕ) (s : State (List Event)) (bad : Option ℕ) (long : Bool) (unclosed : Option ℕ) → EventsStand n s.context
    → IfFine (at_the_end s bad long unclosed) (EventsStand n)
end_good n s (Some p) long unclosed g = tt
end_good n s None true unclosed g = tt
end_good n s None false (Some p) g = tt
end_good n s None false None g = open_good n s (open_blocks s.context) g

after_good : (n : ℕ) (r : Result (State (List Event)) ReadFault) (f : State (List Event) → Result (List Event) ReadFault) → IfFine r (Good n)
    → ((s : State (List Event)) → Good n s → IfFine (f s) (EventsStand n)) → IfFine (after r f) (EventsStand n)
after_good n (Ok s) f g later = later s g
after_good n (Err e) f g later = tt

all_good : (n : ℕ) (bytes : List ℕ) (long : Bool) → length (clean bytes) ≤ n → IfFine (read_by bytes long) (EventsStand n)
all_good n bytes long fits =
    after_good n (read_from put look_back (clean bytes) nothing_read (pieces_of (clean bytes))) _
    (read_good n (clean bytes) 0 (pieces_of (clean bytes)) nothing_read fits (parts_of (clean bytes)) (tt, tt, tt))
    (λ s g. end_good n s (position is_bad bytes) long (open_in (pieces_of (clean bytes))) g.0)

take_shorter : (k : ℕ) (l : List ℕ) → length (take k l) ≤ length l
take_shorter k l = grind (arith, common_steps)

clean_shorter : (bytes : List ℕ) (bad : Option ℕ) → length (before_bad bytes bad) ≤ length bytes
clean_shorter bytes None = omega arith
clean_shorter bytes (Some p) = take_shorter p bytes

judged_shorter : (bytes : List ℕ) → length (clean (judged bytes)) ≤ length bytes
judged_shorter bytes = omega (arith, clean_shorter (judged bytes) (position is_bad (judged bytes)), take_shorter (most_bytes + 1) bytes)

database_good : (bytes : List ℕ) → IfFine (database_of bytes) (EventsStand (length bytes))
unfolding database_of
database_good bytes = all_good (length bytes) (judged bytes) (is_long bytes) (judged_shorter bytes)

events_good : (n : ℕ) (r : Result (List Event) ReadFault) → IfFine r (EventsStand n) → EventsStand n (events_in r)
events_good n (Ok past) g = g
events_good n (Err e) g = tt

pushed : (n : ℕ) (ss : List Stated) (x : Stated) → AllStand n ss → Stands n x.described → AllStand n (ss ++ x ∷ [])
pushed n [] x all new = (new, tt)
pushed n (s ∷ ss) x all new = (all.0, pushed n ss x all.1 new)

statements_stand : (n : ℕ) (past : List Event) → EventsStand n past → AllStand n (statements past)
unfolding statements
statements_stand n [] g = tt
statements_stand n (float l ss d ∷ past) g = pushed n (statements past) _ (statements_stand n past g.1) g.0
statements_stand n (essential l ss d ∷ past) g = pushed n (statements past) _ (statements_stand n past g.1) g.0
statements_stand n (asserted l ss d ∷ past) g = pushed n (statements past) _ (statements_stand n past g.1) g.0
statements_stand n (theorem l ss from to d ∷ past) g = pushed n (statements past) _ (statements_stand n past g.1) g.0
statements_stand n (constant t k ∷ past) g = statements_stand n past g
statements_stand n (variable t k ∷ past) g = statements_stand n past g
statements_stand n (distinct ss ∷ past) g = statements_stand n past g
statements_stand n (opened p ∷ past) g = statements_stand n past g
statements_stand n (closed ∷ past) g = statements_stand n past g

one_stands : (n : ℕ) (ss : List Stated) (id : ℕ) → AllStand n ss → Stands n (slice_index_or ss id no_statement).described
one_stands n [] id all = tt
one_stands n (s ∷ ss) zero all = all.0
one_stands n (s ∷ ss) (suc id) all = one_stands n ss id all.1

pub described_stands : (bytes : List ℕ) (id : ℕ) → Stands (length bytes) (stated_at bytes id).described
unfolding statements_of events_of
described_stands bytes id =
    one_stands (length bytes) (statements_of bytes) id
    (statements_stand (length bytes) (events_of bytes) (events_good (length bytes) (database_of bytes) (database_good bytes)))

pub room_of : (n : ℕ) (o : Option Span) → Stands n o → IfSome o (λ s. s.start + 4 ≤ s.end)
room_of n None h = tt
room_of n (Some s) h = h.0

pub within_of : (n : ℕ) (o : Option Span) → Stands n o → IfSome o (λ s. s.end ≤ n)
within_of n None h = tt
within_of n (Some s) h = h.1
