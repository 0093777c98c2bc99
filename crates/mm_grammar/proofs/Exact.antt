-- Where a fault has its cause, the file is refused with it.
use Rattle.std.proofs.Common.{◌≡◌, ◌≤◌, ◌<◌, ℕ, Bool, true, false, List, [], ◌∷◌, ◌++◌, Option, None, Some, length, position, flat_map, reverse, slice_get, slice_index, get_or, is_some, Result, Ok, Err, refl, sym, ap, ◌∙◌, subst, arith, append_assoc, append-nil, inl, inr}
use Rattle.std.proofs.lemmas.Bool.{true≢false, false≢true, false_from_ne_true, cases_lt}
use Rattle.std.proofs.lemmas.Bool.Decides.{Decides-ltb}
use Rattle.std.proofs.lemmas.List.{get_or-take, length-take}
use Rattle.std.proofs.lemmas.List.Folds.{list_any_at}
use Rattle.std.proofs.lemmas.List.Quantifiers.{position-Some}
use Rattle.mm_tokens.specs.Bytes.{is_bad}
use Rattle.mm_tokens.specs.Pieces.{pieces_of, open_in}
use Rattle.mm_tokens.specs.declared.pieces.Span.{Span}
use Rattle.mm_tokens.specs.Words.{word_of}
use Rattle.mm_scope.specs.Databases.{nothing_read, at_the_end, unless_open, unless_begun, database_of}
use Rattle.mm_scope.specs.Events.{Event, put, symbols, open_blocks}
use Rattle.mm_scope.specs.Judged.{most_bytes, is_long, judged, clean}
use Rattle.mm_scope.specs.Looks.{look_back}
use Rattle.mm_scope.specs.Reading.{after, step, read_from}
use Rattle.mm_scope.specs.Steps.{Answers, State}
use Rattle.mm_scope.specs.declared.fault.ReadFault.{ReadFault}
use Rattle.mm_scope.specs.declared.fault.ReadFault.TheVariants as fault
use Rattle.mm_grammar.specs.Phrases.{Noted, Phrase, numbers, noted_from, tokens, text_at, told, IsSymbol}
use Rattle.mm_grammar.specs.Readable.{past_of}
use Rattle.mm_grammar.specs.Rules.{FollowsRules}
use Rattle.mm_grammar.specs.Beginnings.{Beginning, tokens_begun, symbols_begun, place_begun, events_begun, past_begun, IsFitting}
use Rattle.mm_grammar.specs.Beginnings as begun
use Rattle.mm_grammar.specs.Faults.{ShowsAtToken, IsFirstBad, IsClean, IsCauseAtEnd, HasCause}
use Rattle.mm_grammar.proofs.Causes.{apart_now, is_text}
use Rattle.mm_grammar.proofs.Deciding.{mode_of, cause_decided}
use Rattle.mm_grammar.proofs.Fitting.{IsPlacedAt}
use Rattle.mm_grammar.proofs.Going.{at, Goal, ReadsTo, EndsIn, stops, fails_at, pieces_fail, pieces_read}
use Rattle.mm_grammar.proofs.Known.{not_there}
use Rattle.mm_grammar.proofs.Lowest.{IsLowestAt, first_row}
use Rattle.mm_grammar.proofs.Readable.{onto_is, phrases_read, not_long}
use Rattle.mm_grammar.proofs.Reaching.{HasTests, Next, beginning_read}
use Rattle.mm_grammar.proofs.Rows.{holds, step_first}
use Rattle.mm_grammar.proofs.Saying.{each_of}
use Rattle.mm_grammar.proofs.Taking.{onto}
use Rattle.mm_grammar.proofs.Written.{all_judged}

-- reading what fits reaches a state that stands there
module _ (bytes : List ℕ) (before : List Noted) (ps : List Phrase) (b : Beginning) (f : IsFitting bytes before ps b) (rest : List Noted) (goal : Goal) where
  abbrev final : List Event
  final = past_begun bytes ps b

  reached : Next bytes rest final goal f.asked b → ReadsTo bytes nothing_read (before ++ rest) goal
  reached next =
      let from : past_of bytes ps ≡ onto (flat_map (told bytes) ps) [] = sym (onto_is (flat_map (told bytes) ps) [] ∙ append-nil (past_of bytes ps)) in
      let e : final ≡ reverse (events_begun bytes b) ++ onto (flat_map (told bytes) ps) [] = ap (λ q. reverse (events_begun bytes b) ++ q) from in
      subst (λ ns. ReadsTo bytes nothing_read ns goal) (sym (append_assoc (flat_map tokens ps) (tokens_begun b) rest) ∙ ap (λ ns. ns ++ rest) (sym f.whole))
      (phrases_read bytes (tokens_begun b ++ rest) final goal f.asked (reverse (events_begun bytes b)) ps [] e f.formed f.named
      (beginning_read bytes rest final goal f.asked b (onto (flat_map (told bytes) ps) []) e f.form_begun (each_of (IsSymbol bytes (symbols final)) (symbols_begun b) f.named_begun) f.asked_begun next)
      0 [] None [] 0)

-- a fault at a token
module _ (bytes : List ℕ) (f : ReadFault) (x : ShowsAtToken bytes f) where
  abbrev past : List Event
  past = past_begun bytes x.phrases x.begun

  abbrev text_there : List ℕ
  text_there = text_at bytes x.token

  abbrev stated : ReadFault → Bool
  stated g = holds (mode_of x.begun) (numbers (symbols_begun x.begun)) (look_back (past_begun bytes x.phrases x.begun) (text_at bytes x.token)) (word_of (text_at bytes x.token)) (text_at bytes x.token) g

  lowest_there : (buffer : List ℕ) → HasTests x.begun buffer → IsLowestAt (mode_of x.begun) buffer (look_back past text_there) (word_of text_there) text_there x.token.token.start f
  lowest_there buffer tests = record {
    holding = tests (look_back past text_there) (word_of text_there) text_there f ∙ (cause_decided bytes past x.token x.begun f).1 x.cause;
    place = x.place;
    lowest = λ g less. tests (look_back past text_there) (word_of text_there) text_there g
        ∙ false_from_ne_true (stated g) (λ e. x.lowest g less ((cause_decided bytes past x.token x.begun g).0 e));
  }

  fails_there : (s : State (List Event)) → s.context ≡ past → s.mode ≡ mode_of x.begun → HasTests x.begun s.buffer → step put look_back bytes s x.token.token ≡ Err f
  fails_there s e m tests =
      let a : Answers = look_back s.context text_there in
      let first = step_first s a text_there x.token.token.start (word_of text_there) (apart_now s.context text_there (subst FollowsRules (sym e) x.fitting.asked)) in
      first.is ∙ first_row s.mode s.buffer a (word_of text_there) text_there x.token.token.start f first.fine
      (subst (λ q. IsLowestAt s.mode s.buffer (look_back q text_there) (word_of text_there) text_there x.token.token.start f) (sym e)
      (subst (λ k. IsLowestAt k s.buffer (look_back past text_there) (word_of text_there) text_there x.token.token.start f) (sym m) (lowest_there s.buffer tests)))

  token_fails : read_from put look_back bytes nothing_read (pieces_of bytes) ≡ Err f
  token_fails = pieces_fail bytes (pieces_of bytes) nothing_read f
      (subst (λ ns. ReadsTo bytes nothing_read ns (λ r. r ≡ Err f)) (sym x.stands)
      (reached bytes x.before x.phrases x.begun x.fitting (x.token ∷ x.later) (λ r. r ≡ Err f)
      (λ p l d buffer proof tests placed. fails_at bytes (at (mode_of x.begun) past p l d buffer proof None) x.token x.later f
      (fails_there (at (mode_of x.begun) past p l d buffer proof x.token.comment) refl refl tests))))

-- all tokens fit: the state at the end
pub record IsReached (past : List Event) (b : Beginning) (r : Result (State (List Event)) ReadFault) : Type 0 where
  place : ℕ
  label : List ℕ
  described : Option Span
  buffer : List ℕ
  proof : ℕ
  comment : Option Span
  placed : IsPlacedAt b place
  is : r ≡ Ok (at (mode_of b) past place label described buffer proof comment)

module _ (bytes : List ℕ) (ps : List Phrase) (b : Beginning) (f : IsFitting bytes (noted_from None (pieces_of bytes)) ps b) where
  all_noted : ReadsTo bytes nothing_read (noted_from None (pieces_of bytes)) (IsReached (past_begun bytes ps b) b)
  all_noted =
      subst (λ ns. ReadsTo bytes nothing_read ns (IsReached (past_begun bytes ps b) b)) (append-nil (noted_from None (pieces_of bytes)))
      (reached bytes (noted_from None (pieces_of bytes)) ps b f [] (IsReached (past_begun bytes ps b) b)
      (λ p l d buffer proof tests placed. stops bytes (at (mode_of b) (past_begun bytes ps b) p l d buffer proof None) (IsReached (past_begun bytes ps b) b)
      (record { place = p; label = l; described = d; buffer = buffer; proof = proof; comment = None; placed = placed; is = refl })))

  all_read : IsReached (past_begun bytes ps b) b (read_from put look_back bytes nothing_read (pieces_of bytes))
  all_read =
      let n : IsReached (past_begun bytes ps b) b _ = all_noted in
      let t : State (List Event) = at (mode_of b) (past_begun bytes ps b) n.place n.label n.described n.buffer n.proof n.comment in
      let ends : EndsIn (read_from put look_back bytes nothing_read (pieces_of bytes)) t = pieces_read bytes (pieces_of bytes) nothing_read t (record { comment = n.comment; is = n.is }) in
      record { place = n.place; label = n.label; described = n.described; buffer = n.buffer; proof = n.proof; comment = ends.comment; placed = n.placed; is = ends.is }

-- the first bad byte
none_found : (xs : List ℕ) → ((k : ℕ) → k < length xs → is_bad (get_or xs k 0) ≡ false) → position is_bad xs ≡ None
none_found xs h = by (position is_bad xs) refl
  where
    by : (r : Option ℕ) → position is_bad xs ≡ r → r ≡ None
    by None e = refl
    by (Some q) e = let found = position-Some is_bad xs q 0 e in absurd (true≢false (sym found.1 ∙ h q found.0))

first_found : (xs : List ℕ) (p : ℕ) → p < length xs → is_bad (get_or xs p 0) ≡ true → ((k : ℕ) → k < p → is_bad (get_or xs k 0) ≡ false) → position is_bad xs ≡ Some p
first_found xs p small bad first = by (position is_bad xs) refl
  where
    by : (r : Option ℕ) → position is_bad xs ≡ r → r ≡ Some p
    by None e = absurd (true≢false (sym (list_any_at is_bad xs p 0 small bad) ∙ not_there is_bad xs e))
    by (Some q) e = let found = position-Some is_bad xs q 0 e in
        elim (cases_lt p q) [
          | inl less ↦ absurd (true≢false (sym bad ∙ found.2 p less))
          | inr more ↦ elim (cases_lt q p) [
            | inl less ↦ absurd (true≢false (sym found.1 ∙ first q less))
            | inr same ↦ ap Some (omega (arith, more, same))
          ]
        ]

-- a fault at the end
module _ (bytes : List ℕ) where
  abbrev text : List ℕ
  text = clean (judged bytes)

  module _ (b : Beginning) (past : List Event) (s : State (List Event)) (m : s.mode ≡ mode_of b) (e : s.context ≡ past) (placed : IsPlacedAt b s.begun) where
    abbrev Ends : ReadFault → Type 0
    Ends f = at_the_end s (position is_bad (judged bytes)) (is_long bytes) (open_in (pieces_of text)) ≡ Err f

    judged_at : (k : ℕ) → k ≤ most_bytes → get_or (judged bytes) k 0 ≡ get_or bytes k 0
    judged_at k small = get_or-take 134217729 bytes k 0 (omega (arith, small))

    bad_ends : (p : ℕ) → IsFirstBad bytes p → Ends (fault.BadByte p)
    bad_ends p h = ap (λ bad. at_the_end s bad (is_long bytes) (open_in (pieces_of text)))
        (first_found (judged bytes) p (omega (arith, h.within, h.judged, length-take 134217729 bytes)) (ap is_bad (judged_at p h.judged) ∙ h.bad)
        (λ k less. ap is_bad (judged_at k (omega (arith, less, h.judged))) ∙ h.first k less))

    long_ends : (p : ℕ) → p ≡ most_bytes → most_bytes < length bytes → ((k : ℕ) → k ≤ most_bytes → is_bad (slice_index bytes k) ≡ false) → Ends (fault.TooLong p)
    long_ends p is more none =
        ap (λ bad. at_the_end s bad (is_long bytes) (open_in (pieces_of text)))
        (none_found (judged bytes) (λ k small. let near : k ≤ most_bytes = omega (arith, small, length-take 134217729 bytes) in ap is_bad (judged_at k near) ∙ none k near))
        ∙ ap (λ long. at_the_end s None long (open_in (pieces_of text))) ((Decides-ltb most_bytes (length bytes)).1 more)
        ∙ ap (λ k. Err (fault.TooLong k)) (sym is)

    module _ (c : IsClean bytes) where
      short : is_long bytes ≡ false
      short = not_long (length bytes) c.short

      none : position is_bad (judged bytes) ≡ None
      none = ap (position is_bad) (all_judged bytes short) ∙ c.clean

      whole : text ≡ bytes
      whole = is_text bytes none short

      at_last : at_the_end s (position is_bad (judged bytes)) (is_long bytes) (open_in (pieces_of text)) ≡ at_the_end s None false (open_in (pieces_of bytes))
      at_last =
          ap (λ bad. at_the_end s bad (is_long bytes) (open_in (pieces_of text))) none
          ∙ ap (λ long. at_the_end s None long (open_in (pieces_of text))) short
          ∙ ap (λ x. at_the_end s None false (open_in (pieces_of x))) whole

      comment_ends : (p : ℕ) → open_in (pieces_of bytes) ≡ Some p → Ends (fault.CommentOpen p)
      comment_ends p h = at_last ∙ ap (at_the_end s None false) h

      block_ends : (p : ℕ) → open_in (pieces_of bytes) ≡ None → slice_get (open_blocks past) 0 ≡ Some p → Ends (fault.BlockOpen p)
      block_ends p h g = at_last ∙ ap (at_the_end s None false) h ∙ ap (λ q. unless_open s (open_blocks q)) e ∙ by (open_blocks past) g
        where
          value : Option ℕ → ℕ
          value None = 0
          value (Some k) = k

          by : (ps : List ℕ) → slice_get ps 0 ≡ Some p → unless_open s ps ≡ Err (fault.BlockOpen p)
          by [] g = absurd (false≢true (ap is_some g))
          by (q ∷ qs) g = ap (λ k. Err (fault.BlockOpen k)) (ap value g)

      statement_ends : (p : ℕ) → open_in (pieces_of bytes) ≡ None → open_blocks past ≡ [] → place_begun b ≡ Some p → Ends (fault.NotClosed p)
      statement_ends p h g at = at_last ∙ ap (at_the_end s None false) h ∙ ap (λ q. unless_open s (open_blocks q)) e ∙ ap (unless_open s) g ∙ ap (unless_begun s) m ∙ by b placed at
        where
          value : Option ℕ → ℕ
          value None = 0
          value (Some k) = k

          by : (b : Beginning) → IsPlacedAt b s.begun → place_begun b ≡ Some p → unless_begun s (mode_of b) ≡ Err (fault.NotClosed p)
          by begun.nothing placed at = absurd (false≢true (ap is_some at))
          by (begun.label l) placed at = ap (λ k. Err (fault.NotClosed k)) (ap value (sym placed ∙ at))
          by (begun.constants k ss) placed at = ap (λ k. Err (fault.NotClosed k)) (ap value (sym placed ∙ at))
          by (begun.variables k ss) placed at = ap (λ k. Err (fault.NotClosed k)) (ap value (sym placed ∙ at))
          by (begun.distinct k ss) placed at = ap (λ k. Err (fault.NotClosed k)) (ap value (sym placed ∙ at))
          by (begun.float l k ss) placed at = ap (λ k. Err (fault.NotClosed k)) (ap value (sym placed ∙ at))
          by (begun.essential l k ss) placed at = ap (λ k. Err (fault.NotClosed k)) (ap value (sym placed ∙ at))
          by (begun.asserted l k ss) placed at = ap (λ k. Err (fault.NotClosed k)) (ap value (sym placed ∙ at))
          by (begun.theorem l k ss) placed at = ap (λ k. Err (fault.NotClosed k)) (ap value (sym placed ∙ at))
          by (begun.proof l k ss q ts) placed at = ap (λ k. Err (fault.NotClosed k)) (ap value (sym placed ∙ at))

    ends_so : (f : ReadFault) → IsCauseAtEnd bytes past b f → Ends f
    ends_so (fault.BadByte p) h = bad_ends p h
    ends_so (fault.TooLong p) h = long_ends p h.0 h.1.0 h.1.1
    ends_so (fault.CommentOpen p) h = comment_ends h.0 p h.1
    ends_so (fault.BlockOpen p) h = block_ends h.0 p h.1.0 h.1.1
    ends_so (fault.NotClosed p) h = statement_ends h.0 p h.1.0 h.1.1.0 h.1.1.1
    ends_so _ h = absurd h

  abbrev read_all : Result (State (List Event)) ReadFault → Result (List Event) ReadFault
  read_all r = after r (λ s. at_the_end s (position is_bad (judged bytes)) (is_long bytes) (open_in (pieces_of text)))

  pub refused : (f : ReadFault) → HasCause bytes f → database_of bytes ≡ Err f
  unfolding database_of
  refused f (inl x) = ap read_all (token_fails text f x)
  refused f (inr x) =
      let r : IsReached (past_begun text x.phrases x.begun) x.begun (read_from put look_back text nothing_read (pieces_of text)) = all_read text x.phrases x.begun x.fitting in
      let s : State (List Event) = at (mode_of x.begun) (past_begun text x.phrases x.begun) r.place r.label r.described r.buffer r.proof r.comment in
      ap read_all r.is ∙ ends_so x.begun (past_begun text x.phrases x.begun) s refl refl r.placed f x.cause
