-- The statements of a database are its tokens.
use Rattle.std.proofs.Common.{◌+◌, ◌≡◌, ◌≤◌, ℕ, All, Bool, true, false, List, [], ◌∷◌, ◌++◌, Option, None, Some, length, position, map, flat_map, is_ok, nat_lt, Result, Ok, Err, refl, sym, ap, ◌∙◌, subst, arith, append-nil}
use Rattle.std.proofs.lemmas.Bool.{false≢true}
use Rattle.std.proofs.lemmas.List.{take_all}
use Rattle.mm_tokens.specs.Bytes.{is_bad}
use Rattle.mm_tokens.specs.Pieces.{pieces_of, open_in}
use Rattle.mm_scope.specs.Contents.{is_read, events_in, events_of}
use Rattle.mm_scope.specs.Databases.{nothing_read, at_the_end, unless_open, unless_begun, database_of}
use Rattle.mm_scope.specs.Events.{Event, put, open_blocks, symbols}
use Rattle.mm_scope.specs.Judged.{most_bytes, is_long, judged, before_bad, clean}
use Rattle.mm_scope.specs.Looks.{look_back}
use Rattle.mm_scope.specs.Reading.{after, read_from}
use Rattle.mm_scope.specs.Steps.{State}
use Rattle.mm_scope.specs.declared.fault.ReadFault.{ReadFault}
use Rattle.mm_scope.specs.declared.mode.Mode.{Mode}
use Rattle.mm_scope.specs.declared.mode.Mode.TheVariants as mode
use Rattle.mm_plain.proofs.Fine.{IfFine}
use Rattle.mm_grammar.specs.Phrases.{Noted, noted_from, tokens, symbols_in}
use Rattle.mm_scope.proofs.ContentsLemmas.{is_read-length}
use Rattle.mm_grammar.specs.Readable.{past_of}
use Rattle.mm_grammar.specs.Rules.{FollowsRules}
use Rattle.mm_grammar.specs.Written.{IsWritten}
use Rattle.mm_grammar.proofs.Closing.{all_closed}
use Rattle.mm_grammar.proofs.Following.{followed}
use Rattle.mm_grammar.proofs.Noting.{tokens_noted, fine_noted}
use Rattle.mm_grammar.proofs.Steps.{kept}
use Rattle.mm_grammar.proofs.Writing.{AreSymbols, none_done, ReadAt}

-- what was read and is whole, of a list of events
abbrev Whole : List ℕ → List Noted → List Event → Type 0
Whole bytes read past = ReadAt bytes read (record nothing_read { context = past }) mode.Start

whole_begun : (bytes : List ℕ) (read : List Noted) (s : State (List Event)) (m : Mode) → ReadAt bytes read s m → IfFine (unless_begun s m) (Whole bytes read)
whole_begun bytes read s mode.Start g = record { phrases = g.phrases; begun = g.begun; placed = tt; done = g.done; now = g.now }
whole_begun bytes read s _ g = tt

whole_open : (bytes : List ℕ) (read : List Noted) (s : State (List Event)) (ps : List ℕ) → ReadAt bytes read s s.mode → IfFine (unless_open s ps) (Whole bytes read)
whole_open bytes read s [] g = whole_begun bytes read s s.mode g
whole_open bytes read s (p ∷ ps) g = tt

-- the end is met only where no byte is bad, none is too many and no comment is open
module _ (bytes : List ℕ) (read : List Noted) (s : State (List Event)) (g : ReadAt bytes read s s.mode) where
  with_end : (bad : Option ℕ) (long : Bool) (unclosed : Option ℕ) → bad ≡ None → long ≡ false → unclosed ≡ None → (r : Result (List Event) ReadFault) → IfFine r (Whole bytes read)
      → IfFine r (λ past. Whole bytes read past × (bad ≡ None) × (long ≡ false) × (unclosed ≡ None))
  with_end bad long unclosed a b c (Ok past) w = (w, a, b, c)
  with_end bad long unclosed a b c (Err e) w = tt

  whole_end : (bad : Option ℕ) (long : Bool) (unclosed : Option ℕ)
      → IfFine (at_the_end s bad long unclosed) (λ past. Whole bytes read past × (bad ≡ None) × (long ≡ false) × (unclosed ≡ None))
  whole_end (Some p) long unclosed = tt
  whole_end None true unclosed = tt
  whole_end None false (Some p) = tt
  whole_end None false None = with_end None false None refl refl refl (unless_open s (open_blocks s.context)) (whole_open bytes read s (open_blocks s.context) g)

within : (k n : ℕ) → nat_lt k n ≡ false → n ≤ k
within k n h = grind (arith, h)

pub all_judged : (bytes : List ℕ) → is_long bytes ≡ false → judged bytes ≡ bytes
all_judged bytes h = take_all (most_bytes + 1) bytes (omega (arith, within most_bytes (length bytes) h))

whole_text : (bytes : List ℕ) → position is_bad (judged bytes) ≡ None → is_long bytes ≡ false → clean (judged bytes) ≡ bytes
whole_text bytes none short = ap (before_bad (judged bytes)) none ∙ all_judged bytes short

-- a database is read: all its tokens are written, and no comment is open
record IsAllRead (bytes : List ℕ) (past : List Event) : Type 0 where
  written : Whole bytes (noted_from None (pieces_of bytes)) past
  clean : position is_bad bytes ≡ None
  ended : open_in (pieces_of bytes) ≡ None

module _ (bytes : List ℕ) where
  abbrev text : List ℕ
  text = clean (judged bytes)

  all_read : (r : Result (List Event) ReadFault)
      → IfFine r (λ past. Whole text (noted_from None (pieces_of text)) past × (position is_bad (judged bytes) ≡ None) × (is_long bytes ≡ false) × (open_in (pieces_of text) ≡ None))
      → IfFine r (IsAllRead bytes)
  all_read (Ok past) w =
      let e = whole_text bytes w.1 w.2 in
      record { written = subst (λ b. Whole b (noted_from None (pieces_of b)) past) e w.0; clean = ap (position is_bad) (sym (all_judged bytes w.2)) ∙ w.1; ended = ap (λ b. open_in (pieces_of b)) (sym e) ∙ w.3 }
  all_read (Err f) w = tt

  read_on : (r : Result (State (List Event)) ReadFault) → IfFine r (λ t. ReadAt text (noted_from None (pieces_of text)) t t.mode)
      → IfFine (after r (λ s. at_the_end s (position is_bad (judged bytes)) (is_long bytes) (open_in (pieces_of text)))) (IsAllRead bytes)
  read_on (Ok s) g =
      all_read (at_the_end s (position is_bad (judged bytes)) (is_long bytes) (open_in (pieces_of text)))
      (whole_end text (noted_from None (pieces_of text)) s g (position is_bad (judged bytes)) (is_long bytes) (open_in (pieces_of text)))
  read_on (Err f) g = tt

  nothing_written : ReadAt text [] nothing_read mode.Start
  nothing_written = record { phrases = []; begun = []; placed = tt; done = none_done text (symbols []); now = (refl, refl) }

  database_read : IfFine (database_of bytes) (IsAllRead bytes)
  unfolding database_of
  database_read =
      read_on (read_from put look_back text nothing_read (pieces_of text))
      (fine_noted text (λ read t. ReadAt text read t t.mode) (λ read t c g. record { phrases = g.phrases; begun = g.begun; placed = g.placed; done = g.done; now = g.now })
      (λ read t g. record { phrases = g.phrases; begun = g.begun; placed = g.placed; done = g.done; now = g.now }) (kept text) (pieces_of text) [] nothing_read nothing_written)

  of_read : (past : List Event) → is_read bytes ≡ true → events_of bytes ≡ past → IsAllRead bytes past → IsWritten bytes
  of_read past ok e r =
      let g : Whole bytes (noted_from None (pieces_of bytes)) past = r.written in
      let whole = sym (g.done.whole ∙ ap (λ b. flat_map tokens g.phrases ++ b) g.now.0 ∙ append-nil (flat_map tokens g.phrases)) in
      let said : past_of bytes g.phrases ≡ events_of bytes = sym g.now.1 ∙ sym e in
      record {
        phrases = g.phrases;
        readable = record {
          short = is_read-length bytes ok;
          clean = r.clean;
          ended = r.ended;
          whole = whole;
          formed = g.done.formed;
          named = subst (λ all. All (λ p. AreSymbols bytes all (symbols_in p)) g.phrases) (ap symbols g.now.1) g.done.named;
          asked = subst FollowsRules (sym said) (followed bytes);
          closed = ap open_blocks said ∙ all_closed bytes;
        };
        outside = ap (map (λ (n : Noted). n.token)) whole ∙ tokens_noted None (pieces_of bytes) r.ended;
        said = said;
      }

  by_result : (r : Result (List Event) ReadFault) → database_of bytes ≡ r → IfFine r (IsAllRead bytes) → is_read bytes ≡ true → is_ok r ≡ true → IsWritten bytes
  unfolding events_of
  by_result (Ok past) e w read ok = of_read past read (ap events_in e) w
  by_result (Err f) e w read ok = absurd (false≢true ok)

  pub written : is_read bytes ≡ true → IsWritten bytes
  unfolding is_read
  written ok = by_result (database_of bytes) refl database_read ok ok
