-- The end of a statement: its tokens are those of one of the forms.
use Rattle.std.proofs.Common.{◌≡◌, ◌≤◌, ◌<◌, ◌+◌, ℕ, false, List, [], ◌∷◌, ◌++◌, Option, length, codes, nat_lt, nat_eq, refl, sym, ap, ◌∙◌, arith, append_assoc}
use Rattle.std.proofs.lemmas.Bool.{eqb-true}
use Rattle.mm_tokens.specs.declared.pieces.Span.{Span}
use Rattle.mm_scope.specs.Events.{Event, put, float, essential, asserted, theorem, distinct, symbols}
use Rattle.mm_scope.specs.Steps.{State, at_end, most_symbols}
use Rattle.mm_scope.specs.declared.mode.Mode.{Mode}
use Rattle.mm_scope.specs.declared.mode.Mode.TheVariants as mode
use Rattle.mm_plain.proofs.Fine.{IfFine, fine_if}
use Rattle.mm_grammar.specs.Phrases.{Noted, Phrase, places, numbers, text_at, Reads}
use Rattle.mm_grammar.specs.Phrases as phrase
use Rattle.mm_grammar.proofs.Writing.{past_push, IsDone, one_phrase, Listing, Stating, Proving, as_long, ReadAt}

some_symbols : (k j : ℕ) → nat_eq k 0 ≡ false → k ≤ most_symbols → k ≡ j → (1 ≤ j) × (j ≤ most_symbols)
some_symbols k j h few e = (some k h e, omega (arith, few, e))
  where
    some : (m : ℕ) → nat_eq m 0 ≡ false → m ≡ j → 1 ≤ j
    some m g f = grind (arith, g, f)

two_symbols : (k j : ℕ) → nat_lt k 2 ≡ false → k ≤ most_symbols → k ≡ j → (2 ≤ j) × (j ≤ most_symbols)
two_symbols k j h few e = (two k h e, omega (arith, few, e))
  where
    two : (m : ℕ) → nat_lt m 2 ≡ false → m ≡ j → 2 ≤ j
    two m g f = grind (arith, g, f)

pub one_or_more : (k j : ℕ) → 0 < k → k ≤ most_symbols → k ≡ j → (1 ≤ j) × (j ≤ most_symbols)
one_or_more k j h few e = (omega (arith, h, e), omega (arith, few, e))

-- what a labelled statement has and says by then
module _ (bytes keyword label : List ℕ) (described : Option Span) (all : List (List ℕ)) (buffer : List ℕ) (begun : List Noted) (s : Stating bytes keyword label described all buffer begun) where
  pub stating_stands : begun ≡ s.labelling.name ∷ (s.listing.first ∷ places s.listed)
  stating_stands = s.labelling.stands ∙ ap (λ r. s.labelling.name ∷ r) s.listing.stands

  stating_said : (say : List ℕ → List ℕ → Option Span → Event) → say label buffer described ≡ say (text_at bytes s.labelling.name) (numbers s.listed) s.labelling.name.comment
  stating_said say =
      ap (λ l. say l buffer described) s.labelling.text
      ∙ ap (λ b. say (text_at bytes s.labelling.name) b described) s.listing.numbered
      ∙ ap (say (text_at bytes s.labelling.name) (numbers s.listed)) s.labelling.comment

-- where n is the `$.`
module _ (bytes : List ℕ) (read : List Noted) (s : State (List Event)) (n : Noted) (ends : Reads bytes n (codes "$.")) where
  abbrev Good : State (List Event) → Type 0
  Good t = ReadAt bytes (read ++ (n ∷ [])) t t.mode

  -- the statement p is done
  abbrev Done : List Phrase → Phrase → Type 0
  Done ps p = IsDone bytes (symbols s.context) (read ++ (n ∷ [])) (ps ++ (p ∷ [])) []

  constants_end : ReadAt bytes read s mode.Constants → (p : ℕ) → IfFine (at_end put s mode.Constants p) Good
  unfolding at_end
  constants_end g p =
      let l : Listing bytes (codes "$c") (symbols s.context) s.buffer g.now.listed g.begun = g.now.listing in
      let q : Phrase = phrase.constants l.first g.now.listed n in
      fine_if (nat_eq (length s.buffer) 0) _ _ Good (λ _. tt) (λ some. record {
        phrases = g.phrases ++ (q ∷ []);
        begun = [];
        placed = tt;
        done = one_phrase bytes (symbols s.context) read g.phrases g.begun g.done q n (sym (ap (λ b. b ++ (n ∷ [])) l.stands))
            (l.reads, some_symbols (length s.buffer) (length g.now.listed) some l.few (as_long s.buffer g.now.listed l.numbered), ends) l.named;
        now = (refl, g.now.said ∙ sym (past_push bytes g.phrases q));
      })

  variables_end : ReadAt bytes read s mode.Variables → (p : ℕ) → IfFine (at_end put s mode.Variables p) Good
  unfolding at_end
  variables_end g p =
      let l : Listing bytes (codes "$v") (symbols s.context) s.buffer g.now.listed g.begun = g.now.listing in
      let q : Phrase = phrase.variables l.first g.now.listed n in
      fine_if (nat_eq (length s.buffer) 0) _ _ Good (λ _. tt) (λ some. record {
        phrases = g.phrases ++ (q ∷ []);
        begun = [];
        placed = tt;
        done = one_phrase bytes (symbols s.context) read g.phrases g.begun g.done q n (sym (ap (λ b. b ++ (n ∷ [])) l.stands))
            (l.reads, some_symbols (length s.buffer) (length g.now.listed) some l.few (as_long s.buffer g.now.listed l.numbered), ends) l.named;
        now = (refl, g.now.said ∙ sym (past_push bytes g.phrases q));
      })

  distinct_end : ReadAt bytes read s mode.Distinct → (p : ℕ) → IfFine (at_end put s mode.Distinct p) Good
  unfolding at_end symbols
  distinct_end g p =
      let l : Listing bytes (codes "$d") (symbols s.context) s.buffer g.now.0.0 g.begun = g.now.0.1 in
      let q : Phrase = phrase.distinct l.first g.now.0.0 n in
      fine_if (nat_lt (length s.buffer) 2) _ _ Good (λ _. tt) (λ some. record {
        phrases = g.phrases ++ (q ∷ []);
        begun = [];
        placed = tt;
        done = one_phrase bytes (symbols s.context) read g.phrases g.begun g.done q n (sym (ap (λ b. b ++ (n ∷ [])) l.stands))
            (l.reads, two_symbols (length s.buffer) (length g.now.0.0) some l.few (as_long s.buffer g.now.0.0 l.numbered), ends) l.named;
        now = (refl, ap (λ b. distinct b ∷ s.context) l.numbered ∙ ap (λ past. distinct (numbers g.now.0.0) ∷ past) g.now.1 ∙ sym (past_push bytes g.phrases q));
      })

  -- of a labelled statement its tokens and what it says
  module _ (keyword : List ℕ) (begun : List Noted) (st : Stating bytes keyword s.label s.described (symbols s.context) s.buffer begun) where
    ends_so : begun ++ (n ∷ []) ≡ st.labelling.name ∷ (st.listing.first ∷ (places st.listed ++ (n ∷ [])))
    ends_so = ap (λ b. b ++ (n ∷ [])) (stating_stands bytes keyword s.label s.described (symbols s.context) s.buffer begun st)

    says_so : (say : List ℕ → List ℕ → Option Span → Event) (past : List Event) → s.context ≡ past
        → say s.label s.buffer s.described ∷ s.context ≡ say (text_at bytes st.labelling.name) (numbers st.listed) st.labelling.name.comment ∷ past
    says_so say past e =
        ap (λ x. x ∷ s.context) (stating_said bytes keyword s.label s.described (symbols s.context) s.buffer begun st say)
        ∙ ap (λ q. say (text_at bytes st.labelling.name) (numbers st.listed) st.labelling.name.comment ∷ q) e

    long_so : length s.buffer ≡ length st.listed
    long_so = as_long s.buffer st.listed st.listing.numbered

  float_end : ReadAt bytes read s mode.Float → (p : ℕ) → IfFine (at_end put s mode.Float p) Good
  unfolding at_end symbols
  float_end g p =
      let st : Stating bytes (codes "$f") s.label s.described (symbols s.context) s.buffer g.begun = g.now.0 in
      let q : Phrase = phrase.float st.labelling.name st.listing.first st.listed n in
      fine_if (nat_eq (length s.buffer) 2) _ _ Good (λ two. record {
        phrases = g.phrases ++ (q ∷ []);
        begun = [];
        placed = tt;
        done = one_phrase bytes (symbols s.context) read g.phrases g.begun g.done q n (sym (ends_so (codes "$f") g.begun st))
            (st.labelling.is, st.listing.reads, sym (long_so (codes "$f") g.begun st) ∙ eqb-true (length s.buffer) 2 two, ends) st.listing.named;
        now = (refl, says_so (codes "$f") g.begun st float _ g.now.1 ∙ sym (past_push bytes g.phrases q));
      }) (λ _. tt)

  essential_end : ReadAt bytes read s mode.Essential → (p : ℕ) → IfFine (at_end put s mode.Essential p) Good
  unfolding at_end symbols
  essential_end g p =
      let st : Stating bytes (codes "$e") s.label s.described (symbols s.context) s.buffer g.begun = g.now.0 in
      let q : Phrase = phrase.essential st.labelling.name st.listing.first st.listed n in
      fine_if (nat_eq (length s.buffer) 0) _ _ Good (λ _. tt) (λ some. record {
        phrases = g.phrases ++ (q ∷ []);
        begun = [];
        placed = tt;
        done = one_phrase bytes (symbols s.context) read g.phrases g.begun g.done q n (sym (ends_so (codes "$e") g.begun st))
            (st.labelling.is, st.listing.reads, some_symbols (length s.buffer) (length st.listed) some st.listing.few (long_so (codes "$e") g.begun st), ends) st.listing.named;
        now = (refl, says_so (codes "$e") g.begun st essential _ g.now.1 ∙ sym (past_push bytes g.phrases q));
      })

  asserted_end : ReadAt bytes read s mode.Axiom → (p : ℕ) → IfFine (at_end put s mode.Axiom p) Good
  unfolding at_end symbols
  asserted_end g p =
      let st : Stating bytes (codes "$a") s.label s.described (symbols s.context) s.buffer g.begun = g.now.0 in
      let q : Phrase = phrase.asserted st.labelling.name st.listing.first st.listed n in
      fine_if (nat_eq (length s.buffer) 0) _ _ Good (λ _. tt) (λ some. record {
        phrases = g.phrases ++ (q ∷ []);
        begun = [];
        placed = tt;
        done = one_phrase bytes (symbols s.context) read g.phrases g.begun g.done q n (sym (ends_so (codes "$a") g.begun st))
            (st.labelling.is, st.listing.reads, some_symbols (length s.buffer) (length st.listed) some st.listing.few (long_so (codes "$a") g.begun st), ends) st.listing.named;
        now = (refl, says_so (codes "$a") g.begun st asserted _ g.now.1 ∙ sym (past_push bytes g.phrases q));
      })

  theorem_end : ReadAt bytes read s mode.Proof → IfFine (at_end put s mode.Proof n.token.start) Good
  unfolding at_end symbols
  theorem_end g =
      let pr : Proving bytes s.label s.described (symbols s.context) s.buffer s.proof g.begun = g.now.0 in
      let st : Stating bytes (codes "$p") s.label s.described (symbols s.context) s.buffer pr.front = pr.stating in
      let q : Phrase = phrase.theorem st.labelling.name st.listing.first st.listed pr.equals pr.proof n in
      let to : ℕ = n.token.start in
      record {
        phrases = g.phrases ++ (q ∷ []);
        begun = [];
        placed = tt;
        done = one_phrase bytes (symbols s.context) read g.phrases g.begun g.done q n
            (sym (ap (λ b. b ++ (n ∷ [])) pr.stands ∙ append_assoc pr.front (pr.equals ∷ pr.proof) (n ∷ [])
            ∙ ap (λ f. f ++ (pr.equals ∷ (pr.proof ++ (n ∷ [])))) (stating_stands bytes (codes "$p") s.label s.described (symbols s.context) s.buffer pr.front st)))
            (st.labelling.is, st.listing.reads, one_or_more (length s.buffer) (length st.listed) pr.some st.listing.few (long_so (codes "$p") pr.front st), pr.reads, pr.plain, ends) st.listing.named;
        now = (
          refl,
          ap (λ from. theorem s.label s.buffer from to s.described ∷ s.context) pr.starts
              ∙ says_so (codes "$p") pr.front st (λ l b d. theorem l b (pr.equals.token.start + 2) to d) _ g.now.1 ∙ sym (past_push bytes g.phrases q),
        );
      }

  pub at_end_written : (m : Mode) → ReadAt bytes read s m → IfFine (at_end put s m n.token.start) Good
  unfolding at_end
  at_end_written mode.Start g = tt
  at_end_written mode.Labelled g = tt
  at_end_written mode.Constants g = constants_end g n.token.start
  at_end_written mode.Variables g = variables_end g n.token.start
  at_end_written mode.Distinct g = distinct_end g n.token.start
  at_end_written mode.Float g = float_end g n.token.start
  at_end_written mode.Essential g = essential_end g n.token.start
  at_end_written mode.Axiom g = asserted_end g n.token.start
  at_end_written mode.Theorem g = tt
  at_end_written mode.Proof g = theorem_end g
