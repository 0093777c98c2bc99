-- Each token that is read carries on what is written.
use Rattle.std.proofs.Common.{◌≡◌, ℕ, Bool, false, List, [], ◌∷◌, ◌++◌, Option, length, codes, nat_eq, refl, sym, ap, ◌∙◌, subst, arith, ◌<◌}
use Rattle.std.proofs.lemmas.List.Elements.{All-nil}
use Rattle.mm_tokens.specs.declared.pieces.Span.{Span}
use Rattle.mm_tokens.specs.declared.pieces.Token.{Token}
use Rattle.mm_tokens.specs.Words.{word_of}
use Rattle.mm_tokens.specs.declared.word.Word.{Word}
use Rattle.mm_tokens.specs.declared.word.Word.TheVariants as word
use Rattle.mm_scope.specs.Events.{Event, put, opened, closed, symbols}
use Rattle.mm_scope.specs.Looks.{look_back}
use Rattle.mm_scope.specs.Reading.{text_of, step}
use Rattle.mm_scope.specs.Steps.{State, begin, at_proof, unlabelled, at_constants, labelled, at_open, at_close, step_by}
use Rattle.mm_scope.specs.declared.mode.Mode.{Mode}
use Rattle.mm_scope.specs.declared.mode.Mode.TheVariants as mode
use Rattle.mm_plain.proofs.Fine.{IfFine, fine_if}
use Rattle.mm_grammar.specs.Phrases.{Noted, Phrase, text_at, Reads, IsPlain, IsSymbol}
use Rattle.mm_grammar.specs.Phrases as phrase
use Rattle.mm_grammar.specs.Readable.{past_of}
use Rattle.mm_grammar.proofs.Keywords.{Spells, spelled}
use Rattle.mm_grammar.proofs.Writing.{past_push, one_token, one_phrase, Labelling, Stating, listing_begun, labelling_more, Begun, IsPlaced, placed_more, ReadAt}
use Rattle.mm_grammar.proofs.Symbols.{at_text_written}
use Rattle.mm_grammar.proofs.Ends.{at_end_written}

some_length : (k : ℕ) → nat_eq k 0 ≡ false → 0 < k
some_length k h = grind (arith, h)

stating_begun : (bytes keyword label : List ℕ) (described : Option Span) (all : List (List ℕ)) (begun : List Noted) (n : Noted)
    → Labelling bytes label described begun [] → Reads bytes n keyword → Stating bytes keyword label described all [] (begun ++ (n ∷ []))
stating_begun bytes keyword label described all begun n l reads = record {
  rest = n ∷ [];
  listed = [];
  labelling = labelling_more bytes label described begun [] n l;
  listing = listing_begun bytes keyword all [] n refl reads;
}

-- where n is the next token
module _ (bytes : List ℕ) (read : List Noted) (s : State (List Event)) (n : Noted) (noted : s.comment ≡ n.comment) where
  abbrev Good : State (List Event) → Type 0
  Good t = ReadAt bytes (read ++ (n ∷ [])) t t.mode

  at_proof_written : (m : Mode) → ReadAt bytes read s m → Reads bytes n (codes "$=") → IfFine (at_proof s m n.token.start) Good
  unfolding at_proof
  at_proof_written mode.Theorem g reads = fine_if (nat_eq (length s.buffer) 0) _ _ Good (λ _. tt) (λ some. record {
    phrases = g.phrases;
    begun = g.begun ++ (n ∷ []);
    placed = placed_more mode.Theorem s.begun g.begun n g.placed;
    done = one_token bytes (symbols s.context) read g.phrases g.begun g.done n;
    now = (
      record {
        front = g.begun;
        stating = g.now.0;
        some = some_length (length s.buffer) some;
        equals = n;
        reads = reads;
        proof = [];
        plain = All-nil (IsPlain bytes);
        starts = refl;
        stands = refl;
      },
      g.now.1,
    );
  })
  at_proof_written _ g reads = tt

  -- a statement begins
  begun_so : (m k : Mode) (g : ReadAt bytes read s m) → IsPlaced k n.token.start (g.begun ++ (n ∷ [])) → Begun bytes k (begin s k n.token.start) g.phrases (g.begun ++ (n ∷ [])) → Good (begin s k n.token.start)
  begun_so m k g placed now = record { phrases = g.phrases; begun = g.begun ++ (n ∷ []); placed = placed; done = one_token bytes (symbols s.context) read g.phrases g.begun g.done n; now = now }

  placed_first : (k : Mode) (begun : List Noted) → begun ≡ [] → IsPlaced k n.token.start (n ∷ []) → IsPlaced k n.token.start (begun ++ (n ∷ []))
  placed_first k begun none first = subst (λ b. IsPlaced k n.token.start (b ++ (n ∷ []))) (sym none) first

  unlabelled_written : (m k : Mode) → IsPlaced k n.token.start (n ∷ []) → ReadAt bytes read s m
      → ((g : ReadAt bytes read s mode.Start) → Begun bytes k (begin s k n.token.start) g.phrases (g.begun ++ (n ∷ []))) → IfFine (unlabelled s m k n.token.start) Good
  unfolding unlabelled
  unlabelled_written mode.Start k first g now = begun_so mode.Start k g (placed_first k g.begun g.now.0 first) (now g)
  unlabelled_written mode.Labelled k first g now = tt
  unlabelled_written _ k first g now = tt

  labelled_written : (m k : Mode) → ((l : Noted) → IsPlaced k n.token.start (l ∷ (n ∷ []))) → ReadAt bytes read s m
      → ((g : ReadAt bytes read s mode.Labelled) → Begun bytes k (begin s k n.token.start) g.phrases (g.begun ++ (n ∷ []))) → IfFine (labelled s m k n.token.start) Good
  unfolding labelled
  labelled_written mode.Labelled k second g now =
      begun_so mode.Labelled k g (subst (λ b. IsPlaced k n.token.start (b ++ (n ∷ []))) (sym g.now.0.stands) (second g.now.0.name)) (now g)
  labelled_written mode.Start k second g now = tt
  labelled_written _ k second g now = tt

  at_constants_written : (m : Mode) (deep : Bool) → ReadAt bytes read s m → Reads bytes n (codes "$c") → IfFine (at_constants s m deep n.token.start) Good
  unfolding at_constants
  at_constants_written mode.Start deep g reads = fine_if deep _ _ Good (λ _. tt) (λ _.
      begun_so mode.Start mode.Constants g (placed_first mode.Constants g.begun g.now.0 refl) (record { listed = []; listing = listing_begun bytes (codes "$c") (symbols s.context) g.begun n g.now.0 reads; said = g.now.1 }))
  at_constants_written mode.Labelled deep g reads = fine_if deep _ _ Good (λ _. tt) (λ _. tt)
  at_constants_written _ deep g reads = tt

  at_open_written : (m : Mode) → s.mode ≡ m → ReadAt bytes read s m → Reads bytes n (codes "${") → IfFine (at_open put s m n.token.start) Good
  unfolding at_open symbols
  at_open_written mode.Start e g reads =
      let q : Phrase = phrase.opened n in
      subst (λ m. ReadAt bytes (read ++ (n ∷ [])) (record s { context = opened n.token.start ∷ s.context }) m) (sym e) (record {
        phrases = g.phrases ++ (q ∷ []);
        begun = [];
        placed = tt;
        done = one_phrase bytes (symbols s.context) read g.phrases g.begun g.done q n (sym (ap (λ b. b ++ (n ∷ [])) g.now.0)) reads (All-nil (IsSymbol bytes (symbols s.context)));
        now = (refl, ap (λ past. opened n.token.start ∷ past) g.now.1 ∙ sym (past_push bytes g.phrases q));
      })
  at_open_written mode.Labelled e g reads = tt
  at_open_written _ e g reads = tt

  at_close_written : (m : Mode) → s.mode ≡ m → (deep : Bool) (p : ℕ) → ReadAt bytes read s m → Reads bytes n (codes "$}") → IfFine (at_close put s m deep p) Good
  unfolding at_close symbols
  at_close_written mode.Start e deep p g reads =
      let q : Phrase = phrase.closed n in
      fine_if deep _ _ Good (λ _. subst (λ m. ReadAt bytes (read ++ (n ∷ [])) (record s { context = closed ∷ s.context }) m) (sym e) (record {
        phrases = g.phrases ++ (q ∷ []);
        begun = [];
        placed = tt;
        done = one_phrase bytes (symbols s.context) read g.phrases g.begun g.done q n (sym (ap (λ b. b ++ (n ∷ [])) g.now.0)) reads (All-nil (IsSymbol bytes (symbols s.context)));
        now = (refl, ap (λ past. closed ∷ past) g.now.1 ∙ sym (past_push bytes g.phrases q));
      })) (λ _. tt)
  at_close_written mode.Labelled e deep p g reads = tt
  at_close_written _ e deep p g reads = tt

  -- the keyword of a labelled statement
  stating_so : (keyword : List ℕ) → Reads bytes n keyword → (g : ReadAt bytes read s mode.Labelled)
      → Stating bytes keyword s.label s.described (symbols s.context) [] (g.begun ++ (n ∷ [])) × (s.context ≡ past_of bytes g.phrases)
  stating_so keyword reads g = (stating_begun bytes keyword s.label s.described (symbols s.context) g.begun n g.now.0 reads, g.now.1)

  step_written : (w : Word) → Spells w (text_at bytes n) → ReadAt bytes read s s.mode → IfFine (step_by put s (look_back s.context (text_at bytes n)) w (text_at bytes n) n.token.start) Good
  unfolding step_by
  step_written word.Unknown spells g = tt
  step_written word.Inclusion spells g = tt
  step_written word.Text spells g = at_text_written bytes read s n noted s.mode refl g spells
  step_written word.End spells g = at_end_written bytes read s n spells s.mode g
  step_written word.Proof spells g = at_proof_written s.mode g spells
  step_written word.Constants spells g = at_constants_written s.mode (look_back s.context (text_at bytes n)).deep g spells
  step_written word.Variables spells g = unlabelled_written s.mode mode.Variables refl g
      (λ h. record { listed = []; listing = listing_begun bytes (codes "$v") (symbols s.context) h.begun n h.now.0 spells; said = h.now.1 })
  step_written word.Distinct spells g = unlabelled_written s.mode mode.Distinct refl g
      (λ h. (([], listing_begun bytes (codes "$d") (symbols s.context) h.begun n h.now.0 spells), h.now.1))
  step_written word.Open spells g = at_open_written s.mode refl g spells
  step_written word.Close spells g = at_close_written s.mode refl (look_back s.context (text_at bytes n)).deep n.token.start g spells
  step_written word.Float spells g = labelled_written s.mode mode.Float (λ l. refl) g (stating_so (codes "$f") spells)
  step_written word.Essential spells g = labelled_written s.mode mode.Essential (λ l. refl) g (stating_so (codes "$e") spells)
  step_written word.Axiom spells g = labelled_written s.mode mode.Axiom (λ l. refl) g (stating_so (codes "$a") spells)
  step_written word.Theorem spells g = labelled_written s.mode mode.Theorem (λ l. refl) g (stating_so (codes "$p") spells)

-- so does the next token
pub kept : (bytes : List ℕ) (read : List Noted) (s : State (List Event)) (k : Token) → ReadAt bytes read s s.mode
    → IfFine (step put look_back bytes s k) (λ t. ReadAt bytes (read ++ (record { token = k; comment = s.comment } ∷ [])) t t.mode)
kept bytes read s k g =
    let n : Noted = record { token = k; comment = s.comment } in
    step_written bytes read s n refl (word_of (text_of bytes k)) (spelled (text_of bytes k)) g
