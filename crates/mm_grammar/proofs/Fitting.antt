-- What has been read is as the language asks: whole statements, and the beginning of one.
use Rattle.std.proofs.Common.{◌≡◌, ◌≤◌, ℕ, List, [], ◌∷◌, ◌++◌, Some, All, length, flat_map, codes, refl, ap, ◌∙◌, subst, arith}
use Rattle.std.proofs.lemmas.List.Elements.{All-nil}
use Rattle.mm_tokens.specs.declared.word.Word.{Word}
use Rattle.mm_scope.specs.Events.{Event, symbols}
use Rattle.mm_scope.specs.Steps.{Answers, State, most_symbols}
use Rattle.mm_scope.specs.declared.fault.ReadFault.{ReadFault}
use Rattle.mm_scope.specs.declared.mode.Mode.{Mode}
use Rattle.mm_scope.specs.declared.mode.Mode.TheVariants as mode
use Rattle.mm_grammar.specs.Phrases.{Noted, Symbol, Phrase, places, numbers, tokens, symbols_in, text_at, IsSymbol}
use Rattle.mm_grammar.specs.Rules.{IsNewLabel, FollowsRules}
use Rattle.mm_grammar.specs.Beginnings.{Beginning, tokens_begun, symbols_begun, place_begun, past_begun, IsFormBegun, IsTypingBegun, IsExpressionBegun, IsPartingBegun, IsAskedBegun, IsFitting}
use Rattle.mm_grammar.specs.Beginnings as begun
use Rattle.mm_grammar.proofs.Deciding.{mode_of}
use Rattle.mm_grammar.proofs.Ends.{stating_stands, one_or_more}
use Rattle.mm_grammar.proofs.Following.{FollowsAt}
use Rattle.mm_grammar.proofs.Rows.{holds}
use Rattle.mm_grammar.proofs.Writing.{AreSymbols, IsDone, Listing, Labelling, Stating, Proving, as_long, FirstAt, SecondAt, ReadAt}

-- its place, where it is none between statements
abbrev pub IsPlacedAt : Beginning → ℕ → Type 0
IsPlacedAt begun.nothing p = Unit {0}
IsPlacedAt b p = place_begun b ≡ Some p

-- The state stands where a statement is begun so far; the tests of the faults are those of that statement.
pub record StandsAt (bytes : List ℕ) (read : List Noted) (s : State (List Event)) (m : Mode) : Type 0 where
  pub phrases : List Phrase
  pub begun : Beginning
  pub mode : mode_of begun ≡ m
  pub past : s.context ≡ past_begun bytes phrases begun
  pub tests : (a : Answers) (w : Word) (t : List ℕ) (f : ReadFault) → holds m s.buffer a w t f ≡ holds (mode_of begun) (numbers (symbols_begun begun)) a w t f
  pub placed : IsPlacedAt begun s.begun
  pub fitting : IsFitting bytes read phrases begun

module _ (bytes : List ℕ) (read : List Noted) (s : State (List Event)) where
  -- the parts, of the state's own past
  module _ (ps : List Phrase) (b : Beginning) (ns : List Noted) (d : IsDone bytes (symbols s.context) read ps ns) (stands : ns ≡ tokens_begun b) (e : s.context ≡ past_begun bytes ps b)
      (rules : FollowsRules s.context) where
    fitting_so : IsFormBegun bytes b → AreSymbols bytes (symbols s.context) (symbols_begun b) → IsAskedBegun bytes s.context b → IsFitting bytes read ps b
    fitting_so form named asked = record {
      whole = d.whole ∙ ap (λ xs. flat_map tokens ps ++ xs) stands;
      formed = d.formed;
      form_begun = form;
      named = subst (λ q. All (λ p. AreSymbols bytes (symbols q) (symbols_in p)) ps) e d.named;
      named_begun = subst (λ q. AreSymbols bytes (symbols q) (symbols_begun b)) e named;
      asked = subst FollowsRules e rules;
      asked_begun = subst (λ q. IsAskedBegun bytes q b) e asked;
    }

  few_symbols : (keyword : List ℕ) (all : List (List ℕ)) (ss : List Symbol) (ns : List Noted) → Listing bytes keyword all s.buffer ss ns → length ss ≤ most_symbols
  few_symbols keyword all ss ns l = omega (arith, l.few, as_long s.buffer ss l.numbered)

  same_tests : (m : Mode) (ss : List Symbol) → s.buffer ≡ numbers ss → (a : Answers) (w : Word) (t : List ℕ) (f : ReadFault) → holds m s.buffer a w t f ≡ holds m (numbers ss) a w t f
  same_tests m ss e a w t f = ap (λ b. holds m b a w t f) e

  first_place : (ns : List Noted) (k : Noted) (ks : List Noted) → ns ≡ k ∷ ks → FirstAt s.begun ns → Some k.token.start ≡ Some s.begun
  first_place ns k ks e h = ap Some (subst (FirstAt s.begun) e h)

  second_place : (ns : List Noted) (l k : Noted) (ks : List Noted) → ns ≡ l ∷ (k ∷ ks) → SecondAt s.begun ns → Some k.token.start ≡ Some s.begun
  second_place ns l k ks e h = ap Some (subst (SecondAt s.begun) e h)

  -- of the label and the symbols of a labelled statement
  stated_so : (keyword : List ℕ) (all : List (List ℕ)) (ns : List Noted) (st : Stating bytes keyword s.label s.described all s.buffer ns) (P : List ℕ → List ℕ → Type 0)
      → P s.label s.buffer → P (text_at bytes st.labelling.name) (numbers st.listed)
  stated_so keyword all ns st P h = subst (λ l. P l (numbers st.listed)) st.labelling.text (subst (P s.label) st.listing.numbered h)

  abbrev Past : List ℕ → List ℕ → Type 0
  Past l ss = IsNewLabel s.context l × IsExpressionBegun s.context ss

  pub stands_at : (m : Mode) → ReadAt bytes read s m → FollowsAt s.context m s.label s.buffer → StandsAt bytes read s m
  stands_at mode.Start g f = record {
    phrases = g.phrases;
    begun = begun.nothing;
    mode = refl;
    past = g.now.1;
    tests = λ a w t f. refl;
    placed = tt;
    fitting = fitting_so g.phrases begun.nothing g.begun g.done g.now.0 g.now.1 f.all tt (All-nil (IsSymbol bytes (symbols s.context))) tt;
  }
  stands_at mode.Labelled g f =
      let l : Labelling bytes s.label s.described g.begun [] = g.now.0 in
      record {
        phrases = g.phrases;
        begun = begun.label l.name;
        mode = refl;
        past = g.now.1;
        tests = λ a w t f. refl;
        placed = first_place g.begun l.name [] l.stands g.placed;
        fitting = fitting_so g.phrases (begun.label l.name) g.begun g.done l.stands g.now.1 f.all l.is (All-nil (IsSymbol bytes (symbols s.context))) (subst (IsNewLabel s.context) l.text f.fits);
      }
  stands_at mode.Constants g f =
      let l : Listing bytes (codes "$c") (symbols s.context) s.buffer g.now.listed g.begun = g.now.listing in
      let b : Beginning = begun.constants l.first g.now.listed in
      record {
        phrases = g.phrases;
        begun = b;
        mode = refl;
        past = g.now.said;
        tests = same_tests mode.Constants g.now.listed l.numbered;
        placed = first_place g.begun l.first (places g.now.listed) l.stands g.placed;
        fitting = fitting_so g.phrases b g.begun g.done l.stands g.now.said f.all (l.reads, few_symbols (codes "$c") (symbols s.context) g.now.listed g.begun l) l.named f.fits;
      }
  stands_at mode.Variables g f =
      let l : Listing bytes (codes "$v") (symbols s.context) s.buffer g.now.listed g.begun = g.now.listing in
      let b : Beginning = begun.variables l.first g.now.listed in
      record {
        phrases = g.phrases;
        begun = b;
        mode = refl;
        past = g.now.said;
        tests = same_tests mode.Variables g.now.listed l.numbered;
        placed = first_place g.begun l.first (places g.now.listed) l.stands g.placed;
        fitting = fitting_so g.phrases b g.begun g.done l.stands g.now.said f.all (l.reads, few_symbols (codes "$v") (symbols s.context) g.now.listed g.begun l) l.named tt;
      }
  stands_at mode.Distinct g f =
      let ss : List Symbol = g.now.0.0 in
      let l : Listing bytes (codes "$d") (symbols s.context) s.buffer ss g.begun = g.now.0.1 in
      let b : Beginning = begun.distinct l.first ss in
      record {
        phrases = g.phrases;
        begun = b;
        mode = refl;
        past = g.now.1;
        tests = same_tests mode.Distinct ss l.numbered;
        placed = first_place g.begun l.first (places ss) l.stands g.placed;
        fitting = fitting_so g.phrases b g.begun g.done l.stands g.now.1 f.all (l.reads, few_symbols (codes "$d") (symbols s.context) ss g.begun l) l.named (subst (IsPartingBegun s.context) l.numbered f.fits);
      }
  stands_at mode.Float g f =
      let st : Stating bytes (codes "$f") s.label s.described (symbols s.context) s.buffer g.begun = g.now.0 in
      let b : Beginning = begun.float st.labelling.name st.listing.first st.listed in
      let is : g.begun ≡ tokens_begun b = stating_stands bytes (codes "$f") s.label s.described (symbols s.context) s.buffer g.begun st in
      record {
        phrases = g.phrases;
        begun = b;
        mode = refl;
        past = g.now.1;
        tests = same_tests mode.Float st.listed st.listing.numbered;
        placed = second_place g.begun st.labelling.name st.listing.first (places st.listed) is g.placed;
        fitting = fitting_so g.phrases b g.begun g.done is g.now.1 f.all (st.labelling.is, st.listing.reads, omega (arith, f.fits.1.few, as_long s.buffer st.listed st.listing.numbered)) st.listing.named
            (stated_so (codes "$f") (symbols s.context) g.begun st (λ l ss. IsNewLabel s.context l × IsTypingBegun s.context ss) f.fits);
      }
  stands_at mode.Essential g f =
      let st : Stating bytes (codes "$e") s.label s.described (symbols s.context) s.buffer g.begun = g.now.0 in
      let b : Beginning = begun.essential st.labelling.name st.listing.first st.listed in
      let is : g.begun ≡ tokens_begun b = stating_stands bytes (codes "$e") s.label s.described (symbols s.context) s.buffer g.begun st in
      record {
        phrases = g.phrases;
        begun = b;
        mode = refl;
        past = g.now.1;
        tests = same_tests mode.Essential st.listed st.listing.numbered;
        placed = second_place g.begun st.labelling.name st.listing.first (places st.listed) is g.placed;
        fitting = fitting_so g.phrases b g.begun g.done is g.now.1 f.all (st.labelling.is, st.listing.reads, few_symbols (codes "$e") (symbols s.context) st.listed st.rest st.listing) st.listing.named
            (stated_so (codes "$e") (symbols s.context) g.begun st Past f.fits);
      }
  stands_at mode.Axiom g f =
      let st : Stating bytes (codes "$a") s.label s.described (symbols s.context) s.buffer g.begun = g.now.0 in
      let b : Beginning = begun.asserted st.labelling.name st.listing.first st.listed in
      let is : g.begun ≡ tokens_begun b = stating_stands bytes (codes "$a") s.label s.described (symbols s.context) s.buffer g.begun st in
      record {
        phrases = g.phrases;
        begun = b;
        mode = refl;
        past = g.now.1;
        tests = same_tests mode.Axiom st.listed st.listing.numbered;
        placed = second_place g.begun st.labelling.name st.listing.first (places st.listed) is g.placed;
        fitting = fitting_so g.phrases b g.begun g.done is g.now.1 f.all (st.labelling.is, st.listing.reads, few_symbols (codes "$a") (symbols s.context) st.listed st.rest st.listing) st.listing.named
            (stated_so (codes "$a") (symbols s.context) g.begun st Past f.fits);
      }
  stands_at mode.Theorem g f =
      let st : Stating bytes (codes "$p") s.label s.described (symbols s.context) s.buffer g.begun = g.now.0 in
      let b : Beginning = begun.theorem st.labelling.name st.listing.first st.listed in
      let is : g.begun ≡ tokens_begun b = stating_stands bytes (codes "$p") s.label s.described (symbols s.context) s.buffer g.begun st in
      record {
        phrases = g.phrases;
        begun = b;
        mode = refl;
        past = g.now.1;
        tests = same_tests mode.Theorem st.listed st.listing.numbered;
        placed = second_place g.begun st.labelling.name st.listing.first (places st.listed) is g.placed;
        fitting = fitting_so g.phrases b g.begun g.done is g.now.1 f.all (st.labelling.is, st.listing.reads, few_symbols (codes "$p") (symbols s.context) st.listed st.rest st.listing) st.listing.named
            (stated_so (codes "$p") (symbols s.context) g.begun st Past f.fits);
      }
  stands_at mode.Proof g f =
      let pr : Proving bytes s.label s.described (symbols s.context) s.buffer s.proof g.begun = g.now.0 in
      let st : Stating bytes (codes "$p") s.label s.described (symbols s.context) s.buffer pr.front = pr.stating in
      let b : Beginning = begun.proof st.labelling.name st.listing.first st.listed pr.equals pr.proof in
      let is : g.begun ≡ tokens_begun b = pr.stands ∙ ap (λ ns. ns ++ (pr.equals ∷ pr.proof)) (stating_stands bytes (codes "$p") s.label s.described (symbols s.context) s.buffer pr.front st) in
      record {
        phrases = g.phrases;
        begun = b;
        mode = refl;
        past = g.now.1;
        tests = same_tests mode.Proof st.listed st.listing.numbered;
        placed = second_place g.begun st.labelling.name st.listing.first (places st.listed ++ (pr.equals ∷ pr.proof)) is g.placed;
        fitting = fitting_so g.phrases b g.begun g.done is g.now.1 f.all
            (st.labelling.is, st.listing.reads, one_or_more (length s.buffer) (length st.listed) pr.some st.listing.few (as_long s.buffer st.listed st.listing.numbered), pr.reads, pr.plain) st.listing.named
            (stated_so (codes "$p") (symbols s.context) pr.front st Past (f.fits.0, f.fits.1));
      }
