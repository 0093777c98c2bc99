-- Each fault has its cause where it shows.
use Rattle.std.proofs.Common.{◌≡◌, ◌≤◌, ◌<◌, ℕ, Bool, true, false, ◌&&◌, List, [], ◌∷◌, ◌++◌, Option, None, Some, length, position, slice_get, slice_index, get_or, nat_eq, nat_lt, take, Result, Ok, Err, refl, sym, ap, ◌∙◌, subst, arith, append_assoc, append-nil, inl, inr}
use Rattle.std.proofs.lemmas.Bool.{true≢false, false_from_ne_true}
use Rattle.std.proofs.lemmas.Bool.Decides.{Decides-ltb}
use Rattle.std.proofs.lemmas.List.{get_or-take, length-take-le, length-take}
use Rattle.std.proofs.lemmas.List.Folds.{list_any_at}
use Rattle.std.proofs.lemmas.List.Quantifiers.{position-Some}
use Rattle.std.specs.List.{list_any}
use Rattle.std.specs.Str.{bytes_eq}
use Rattle.mm_tables.specs.Moves.{in_force}
use Rattle.mm_tokens.specs.Bytes.{is_bad}
use Rattle.mm_tokens.specs.Pieces.{pieces_of, open_in}
use Rattle.mm_tokens.specs.declared.pieces.Token.{Token as Run}
use Rattle.mm_tokens.specs.declared.pieces.Span.{Span}
use Rattle.mm_tokens.specs.declared.pieces.Piece.{Piece}
use Rattle.mm_tokens.specs.declared.pieces.Piece.TheVariants.{Token, Comment, Open}
use Rattle.mm_tokens.specs.Words.{word_of}
use Rattle.mm_scope.specs.Databases.{nothing_read, at_the_end, unless_open, unless_begun, database_of}
use Rattle.mm_scope.specs.Events.{Event, put, symbols, open_blocks}
use Rattle.mm_scope.specs.Judged.{most_bytes, is_long, judged, before_bad, clean}
use Rattle.mm_scope.specs.Looks.{look_back, known_as, moves, constants, is_active_of}
use Rattle.mm_scope.specs.Reading.{text_of, after, step, read_from, with_comment, without_comment}
use Rattle.mm_scope.specs.Steps.{Answers, State}
use Rattle.mm_scope.specs.declared.fault.ReadFault.{ReadFault}
use Rattle.mm_scope.specs.declared.fault.ReadFault.TheVariants as fault
use Rattle.mm_scope.specs.declared.mode.Mode.{Mode}
use Rattle.mm_scope.specs.declared.mode.Mode.TheVariants as mode
use Rattle.mm_plain.proofs.Fine.{IfFine}
use Rattle.mm_grammar.specs.Phrases.{Noted, noted_from}
use Rattle.mm_grammar.specs.Rules.{FollowsRules}
use Rattle.mm_grammar.specs.Beginnings.{Beginning, symbols_begun, place_begun, past_begun}
use Rattle.mm_grammar.specs.Beginnings as begun
use Rattle.mm_grammar.specs.Phrases.{numbers}
use Rattle.mm_grammar.specs.Faults.{ShowsAtToken, IsFirstBad, IsClean, IsCauseAtEnd, ShowsAtEnd, HasCause}
use Rattle.mm_grammar.proofs.Deciding.{mode_of, cause_decided}
use Rattle.mm_grammar.proofs.Fitting.{IsPlacedAt, StandsAt, stands_at}
use Rattle.mm_grammar.proofs.Following.{FollowsAt, step_good}
use Rattle.mm_grammar.proofs.Known.{not_there}
use Rattle.mm_grammar.proofs.Lowest.{IsLowestAt, lowest_row}
use Rattle.mm_grammar.proofs.Numbering.{variable_now}
use Rattle.mm_grammar.proofs.Rows.{holds, step_first, takes_label}
use Rattle.mm_grammar.proofs.Scoping.{in_scope}
use Rattle.mm_grammar.proofs.Steps.{kept}
use Rattle.mm_grammar.proofs.Writing.{none_done, ReadAt}
use Rattle.mm_grammar.proofs.Written.{all_judged}

abbrev States : Type 0
States = Result (State (List Event)) ReadFault

-- a constant is no variable
apart_as : (past : List Event) (t : List ℕ) → FollowsRules past → (r : Option ℕ) → ((known_as past t r).constant && (known_as past t r).active) ≡ false
apart_as past t rules None = refl
apart_as past t rules (Some n) = by (list_any (is_active_of n) (in_force 0 (moves past))) refl
  where
    and_no : (c : Bool) → (c && false) ≡ false
    and_no true = refl
    and_no false = refl

    by : (v : Bool) → list_any (is_active_of n) (in_force 0 (moves past)) ≡ v → (list_any (nat_eq n) (constants past) && v) ≡ false
    by true e = ap (λ c. c && true) (variable_now past n rules (in_scope past n e))
    by false e = and_no (list_any (nat_eq n) (constants past))

pub apart_now : (past : List Event) (t : List ℕ) → FollowsRules past → ((look_back past t).constant && (look_back past t).active) ≡ false
apart_now past t rules = apart_as past t rules (position (bytes_eq t) (symbols past))

-- what holds wherever reading stands
record IsGood (bytes : List ℕ) (read : List Noted) (s : State (List Event)) : Type 0 where
  written : ReadAt bytes read s s.mode
  follows : FollowsAt s.context s.mode s.label s.buffer

abbrev noted_at : State (List Event) → Run → Noted
noted_at s k = record { token = k; comment = s.comment }

module _ (bytes : List ℕ) where
  with_good : (read : List Noted) (r : States) → IfFine r (λ t. ReadAt bytes read t t.mode) → IfFine r (λ t. FollowsAt t.context t.mode t.label t.buffer) → IfFine r (IsGood bytes read)
  with_good read (Ok t) w f = record { written = w; follows = f }
  with_good read (Err e) w f = tt

  good_kept : (read : List Noted) (s : State (List Event)) (k : Run) → IsGood bytes read s → IfFine (step put look_back bytes s k) (IsGood bytes (read ++ (noted_at s k ∷ [])))
  good_kept read s k g =
      with_good (read ++ (noted_at s k ∷ [])) (step put look_back bytes s k) (kept bytes read s k g.written) (step_good s (word_of (text_of bytes k)) (text_of bytes k) k.start g.follows)

  -- where a step has a fault
  record Fails (all : List Noted) (f : ReadFault) : Type 0 where
    before : List Noted
    later : List Noted
    state : State (List Event)
    token : Run
    good : IsGood bytes before state
    stands : all ≡ before ++ (noted_at state token ∷ later)
    fails : step put look_back bytes state token ≡ Err f

  -- so it is of each, or all is read
  abbrev Leads : List Noted → States → Type 0
  Leads all (Ok t) = IsGood bytes all t
  Leads all (Err f) = Fails all f

  recommented : (read : List Noted) (s : State (List Event)) (c : Option Span) → IsGood bytes read s → IsGood bytes read (record s { comment = c })
  recommented read s c g = record {
    written = record { phrases = g.written.phrases; begun = g.written.begun; placed = g.written.placed; done = g.written.done; now = g.written.now };
    follows = g.follows;
  }

  leads : (ps : List Piece) (read : List Noted) (s : State (List Event)) → IsGood bytes read s → Leads (read ++ noted_from s.comment ps) (read_from put look_back bytes s ps)
  unfolding read_from noted_from
  leads [] read s g = subst (λ r. IsGood bytes r s) (sym (append-nil read)) g
  leads (Open p ∷ ps) read s g = subst (λ r. IsGood bytes r s) (sym (append-nil read)) g
  leads (Comment c ∷ ps) read s g = leads ps read (with_comment s c) (recommented read s (Some c) g)
  leads (Token k ∷ ps) read s g =
      by (step put look_back bytes s k) refl (good_kept read s k g) (λ t h. leads ps (read ++ (noted_at s k ∷ [])) (without_comment t) (recommented (read ++ (noted_at s k ∷ [])) t None h))
    where
      all : List Noted
      all = read ++ (noted_at s k ∷ noted_from None ps)

      by : (r : States) → step put look_back bytes s k ≡ r → IfFine r (IsGood bytes (read ++ (noted_at s k ∷ [])))
          → ((t : State (List Event)) → IsGood bytes (read ++ (noted_at s k ∷ [])) t → Leads ((read ++ (noted_at s k ∷ [])) ++ noted_from None ps) (read_from put look_back bytes (without_comment t) ps))
          → Leads (read ++ (noted_at s k ∷ noted_from None ps)) (after r (λ t. read_from put look_back bytes (without_comment t) ps))
      by (Ok t) e h later =
          subst (λ all. Leads all (read_from put look_back bytes (without_comment t) ps)) (append_assoc read (noted_at s k ∷ []) (noted_from None ps)) (later t h)
      by (Err f) e h later = record { before = read; later = noted_from None ps; state = s; token = k; good = g; stands = refl; fails = e }

  -- the fault of a step
  module _ (f : ReadFault) (x : Fails (noted_from None (pieces_of bytes)) f) where
    stands : StandsAt bytes x.before x.state x.state.mode
    stands = stands_at bytes x.before x.state x.state.mode x.good.written x.good.follows

    n : Noted
    n = noted_at x.state x.token

    lowest : IsLowestAt x.state.mode x.state.buffer (look_back x.state.context (text_of bytes x.token)) (word_of (text_of bytes x.token)) (text_of bytes x.token) x.token.start f
    lowest =
        let a : Answers = look_back x.state.context (text_of bytes x.token) in
        let first = step_first x.state a (text_of bytes x.token) x.token.start (word_of (text_of bytes x.token)) (apart_now x.state.context (text_of bytes x.token) x.good.follows.all) in
        lowest_row x.state.mode x.state.buffer a (word_of (text_of bytes x.token)) (text_of bytes x.token) x.token.start f first.fine (sym first.is ∙ x.fails)

    tests : (g : ReadFault) → holds x.state.mode x.state.buffer (look_back x.state.context (text_of bytes x.token)) (word_of (text_of bytes x.token)) (text_of bytes x.token) g
        ≡ holds (mode_of stands.begun) (numbers (symbols_begun stands.begun)) (look_back (past_begun bytes stands.phrases stands.begun) (text_of bytes x.token)) (word_of (text_of bytes x.token)) (text_of bytes x.token) g
    tests g =
        stands.tests (look_back x.state.context (text_of bytes x.token)) (word_of (text_of bytes x.token)) (text_of bytes x.token) g
        ∙ ap (λ past. holds (mode_of stands.begun) (numbers (symbols_begun stands.begun)) (look_back past (text_of bytes x.token)) (word_of (text_of bytes x.token)) (text_of bytes x.token) g) stands.past

    shows : ShowsAtToken bytes f
    unfolding n
    shows = record {
      before = x.before;
      token = n;
      later = x.later;
      stands = x.stands;
      phrases = stands.phrases;
      begun = stands.begun;
      fitting = stands.fitting;
      place = lowest.place;
      cause = (cause_decided bytes (past_begun bytes stands.phrases stands.begun) n stands.begun f).0 (sym (tests f) ∙ lowest.holding);
      lowest = λ g less c. true≢false (sym ((cause_decided bytes (past_begun bytes stands.phrases stands.begun) n stands.begun g).1 c) ∙ sym (tests g) ∙ lowest.lowest g less);
    }

-- at the end
module _ (bytes : List ℕ) where
  abbrev text : List ℕ
  text = clean (judged bytes)

  first_bad : (p : ℕ) → position is_bad (judged bytes) ≡ Some p → IsFirstBad bytes p
  first_bad p e =
      let found = position-Some is_bad (judged bytes) p 0 e in
      let small : p < 134217729 = omega (arith, found.0, length-take 134217729 bytes) in
      record {
        within = omega (arith, found.0, length-take 134217729 bytes);
        judged = omega (arith, small);
        bad = ap is_bad (sym (get_or-take 134217729 bytes p 0 small)) ∙ found.1;
        first = λ k less. ap is_bad (sym (get_or-take 134217729 bytes k 0 (omega (arith, small, less)))) ∙ found.2 k less;
      }

  none_bad : position is_bad (judged bytes) ≡ None → most_bytes < length bytes → (k : ℕ) → k ≤ most_bytes → is_bad (slice_index bytes k) ≡ false
  none_bad none long k small =
      let within : k < 134217729 = omega (arith, small) in
      ap is_bad (sym (get_or-take 134217729 bytes k 0 within))
      ∙ false_from_ne_true (is_bad (get_or (take 134217729 bytes) k 0))
      (λ e. true≢false (sym (list_any_at is_bad (judged bytes) k 0 (omega (arith, within, long, length-take-le 134217729 bytes (omega (arith, long)))) e) ∙ not_there is_bad (judged bytes) none))

  within : (k n : ℕ) → nat_lt k n ≡ false → n ≤ k
  within k n h = grind (arith, h)

  pub is_clean : position is_bad (judged bytes) ≡ None → is_long bytes ≡ false → IsClean bytes
  is_clean none short = record { short = within most_bytes (length bytes) short; clean = ap (position is_bad) (sym (all_judged bytes short)) ∙ none }

  pub is_text : position is_bad (judged bytes) ≡ None → is_long bytes ≡ false → clean (judged bytes) ≡ bytes
  is_text none short = ap (before_bad (judged bytes)) none ∙ all_judged bytes short

  placed_begun : (b : Beginning) (p : ℕ) → IsPlacedAt b p → takes_label (mode_of b) ≡ false → place_begun b ≡ Some p
  placed_begun begun.nothing p h e = absurd (true≢false e)
  placed_begun _ p h e = h

  module _ (s : State (List Event)) (stands : StandsAt text (noted_from None (pieces_of text)) s s.mode) where
    abbrev past : List Event
    past = past_begun text stands.phrases stands.begun

    shown : (f : ReadFault) → IsCauseAtEnd bytes past stands.begun f → ShowsAtEnd bytes f
    shown f cause = record { phrases = stands.phrases; begun = stands.begun; fitting = stands.fitting; cause = cause }

    abbrev IsShown : Result (List Event) ReadFault → Type 0
    IsShown (Ok events) = Unit {0}
    IsShown (Err f) = ShowsAtEnd bytes f

    not_closed : IsClean bytes → open_in (pieces_of bytes) ≡ None → open_blocks s.context ≡ [] → takes_label (mode_of stands.begun) ≡ false → ShowsAtEnd bytes (fault.NotClosed s.begun)
    not_closed c none flat some = shown (fault.NotClosed s.begun) (c, (none, (ap open_blocks (sym stands.past) ∙ flat, placed_begun stands.begun s.begun stands.placed some)))

    begun_shown : IsClean bytes → open_in (pieces_of bytes) ≡ None → open_blocks s.context ≡ [] → (m : Mode) → mode_of stands.begun ≡ m → IsShown (unless_begun s m)
    begun_shown c none flat mode.Start e = tt
    begun_shown c none flat _ e = not_closed c none flat (ap takes_label e)

    open_shown : IsClean bytes → open_in (pieces_of bytes) ≡ None → (ps : List ℕ) → open_blocks s.context ≡ ps → IsShown (unless_open s ps)
    open_shown c none [] e = begun_shown c none e s.mode stands.mode
    open_shown c none (p ∷ ps) e = shown (fault.BlockOpen p) (c, (none, ap (λ ps. slice_get ps 0) (ap open_blocks (sym stands.past) ∙ e)))

    end_shown : (bad : Option ℕ) (long : Bool) (unclosed : Option ℕ) → position is_bad (judged bytes) ≡ bad → is_long bytes ≡ long → open_in (pieces_of text) ≡ unclosed
        → IsShown (at_the_end s bad long unclosed)
    end_shown (Some p) long unclosed a b c = shown (fault.BadByte p) (first_bad p a)
    end_shown None true unclosed a b c =
        let more : most_bytes < length bytes = (Decides-ltb most_bytes (length bytes)).0 b in
        shown (fault.TooLong most_bytes) (refl, (more, none_bad a more))
    end_shown None false (Some p) a b c = shown (fault.CommentOpen p) (is_clean a b, ap (λ x. open_in (pieces_of x)) (sym (is_text a b)) ∙ c)
    end_shown None false None a b c = open_shown (is_clean a b) (ap (λ x. open_in (pieces_of x)) (sym (is_text a b)) ∙ c) (open_blocks s.context) refl

  abbrev IsExplained : Result (List Event) ReadFault → Type 0
  IsExplained (Ok events) = Unit {0}
  IsExplained (Err f) = HasCause bytes f

  from_end : (s : State (List Event)) (st : StandsAt text (noted_from None (pieces_of text)) s s.mode) (r : Result (List Event) ReadFault) → IsShown s st r → IsExplained r
  from_end s st (Ok events) h = tt
  from_end s st (Err f) h = inr h

  explained_by : (r : States) → Leads text (noted_from None (pieces_of text)) r
      → IsExplained (after r (λ s. at_the_end s (position is_bad (judged bytes)) (is_long bytes) (open_in (pieces_of text))))
  explained_by (Ok s) g =
      let stands : StandsAt text (noted_from None (pieces_of text)) s s.mode = stands_at text (noted_from None (pieces_of text)) s s.mode g.written g.follows in
      from_end s stands (at_the_end s (position is_bad (judged bytes)) (is_long bytes) (open_in (pieces_of text)))
      (end_shown s stands (position is_bad (judged bytes)) (is_long bytes) (open_in (pieces_of text)) refl refl refl)
  explained_by (Err f) x = inl (shows text f x)

  nothing_good : IsGood text [] nothing_read
  nothing_good = record { written = record { phrases = []; begun = []; placed = tt; done = none_done text (symbols []); now = (refl, refl) }; follows = record { all = tt; fits = tt } }

  explained : IsExplained (database_of bytes)
  unfolding database_of
  explained = explained_by (read_from put look_back text nothing_read (pieces_of text)) (leads text (pieces_of text) [] nothing_read nothing_good)

  pub has_cause : (f : ReadFault) → database_of bytes ≡ Err f → HasCause bytes f
  has_cause f e = subst IsExplained e explained
