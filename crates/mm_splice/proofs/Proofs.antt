-- Where the proofs of theorems stand among the pieces.
use Rattle.std.proofs.Common.{◌≡◌, ℕ, ◌+◌, Bool, not, ◌||◌, List, [], ◌∷◌, ◌++◌, length, nat_eq, nat_lt, Result, Ok, Err, refl, sym, ap, ◌∙◌, subst}
use Rattle.std.proofs.lemmas.List.{append_assoc, append-nil}
use Rattle.std.specs.List.{list_any}
use Rattle.mm_tokens.specs.declared.pieces.Token.{Token as Run}
use Rattle.mm_tokens.specs.declared.pieces.Span.{Span}
use Rattle.mm_tokens.specs.declared.pieces.Piece.{Piece}
use Rattle.mm_tokens.specs.declared.pieces.Piece.TheVariants.{Token, Comment, Open}
use Rattle.mm_tokens.specs.Words.{word_of, is_bad_label, is_bad_symbol}
use Rattle.mm_tokens.specs.declared.word.Word.{Word}
use Rattle.mm_tokens.specs.declared.word.Word.TheVariants as word
use Rattle.mm_scope.specs.Events.{Event, put, constant, variable, float, essential, asserted, theorem, distinct, opened, closed}
use Rattle.mm_scope.specs.Looks.{look_back}
use Rattle.mm_scope.specs.Reading.{text_of, after, step, read_from, with_comment, without_comment}
use Rattle.mm_scope.specs.Steps.{most_label, Answers, unless, symbol_checks, take_symbol, is_full, a_label, a_constant, a_variable, a_float, a_symbol, a_distinct, at_text, at_end, at_proof, unlabelled, at_constants, labelled, at_open, at_close, step_by}
use Rattle.mm_scope.specs.declared.fault.ReadFault.{ReadFault}
use Rattle.mm_scope.specs.declared.mode.Mode.{Mode}
use Rattle.mm_scope.specs.declared.mode.Mode.TheVariants as mode
use Rattle.mm_splice.proofs.Parts.{AreEnded}
use Rattle.mm_splice.proofs.Stepping.{Reading}
use Rattle.mm_splice.proofs.Turning.{reading, IfFine, fine_if, ArePlain, plain_append}

module _ (bytes : List ℕ) where
  -- a proof from a `$=` to the next keyword, a `$.`, among pieces
  pub record IsProof (pieces : List Piece) (from to : ℕ) : Type 0 where
    pub front : List Piece
    pub begin : Run
    pub mid : List Piece
    pub end : Run
    pub rest : List Piece
    pub whole : pieces ≡ front ++ Token begin ∷ (mid ++ Token end ∷ rest)
    pub begins : word_of (text_of bytes begin) ≡ word.Proof
    pub plain : ArePlain bytes mid
    pub ends : word_of (text_of bytes end) ≡ word.End
    pub from_is : from ≡ begin.start + 2
    pub to_is : to ≡ end.start

  -- so stands each theorem's proof, and the earlier ones stand before it
  abbrev pub AreProofs : List Piece → List Event → Type 0
  AreProofs pieces [] = Unit {0}
  AreProofs pieces (theorem l ss from to d ∷ past) = (is : IsProof pieces from to) × AreProofs is.front past
  AreProofs pieces (constant t n ∷ past) = AreProofs pieces past
  AreProofs pieces (variable t n ∷ past) = AreProofs pieces past
  AreProofs pieces (float l ss d ∷ past) = AreProofs pieces past
  AreProofs pieces (essential l ss d ∷ past) = AreProofs pieces past
  AreProofs pieces (asserted l ss d ∷ past) = AreProofs pieces past
  AreProofs pieces (distinct ss ∷ past) = AreProofs pieces past
  AreProofs pieces (opened q ∷ past) = AreProofs pieces past
  AreProofs pieces (closed ∷ past) = AreProofs pieces past

  -- a proof that is not ended
  pub record IsBegun (pieces : List Piece) (from : ℕ) (past : List Event) : Type 0 where
    pub front : List Piece
    pub begin : Run
    pub mid : List Piece
    pub whole : pieces ≡ front ++ Token begin ∷ mid
    pub begins : word_of (text_of bytes begin) ≡ word.Proof
    pub plain : ArePlain bytes mid
    pub from_is : from ≡ begin.start + 2
    pub earlier : AreProofs front past

  abbrev pub Begun : List Piece → Mode → ℕ → List Event → Type 0
  Begun pieces mode.Proof from past = IsBegun pieces from past
  Begun pieces mode.Start from past = Unit {0}
  Begun pieces mode.Labelled from past = Unit {0}
  Begun pieces mode.Constants from past = Unit {0}
  Begun pieces mode.Variables from past = Unit {0}
  Begun pieces mode.Distinct from past = Unit {0}
  Begun pieces mode.Float from past = Unit {0}
  Begun pieces mode.Essential from past = Unit {0}
  Begun pieces mode.Axiom from past = Unit {0}
  Begun pieces mode.Theorem from past = Unit {0}

  pub record FollowsAt (pieces : List Piece) (past : List Event) (m : Mode) (from : ℕ) : Type 0 where
    pub proofs : AreProofs pieces past
    pub begun : Begun pieces m from past

  abbrev pub Follows : List Piece → Reading → Type 0
  Follows pieces s = FollowsAt pieces s.context s.mode s.proof

  longer : (front mid rest pieces more : List Piece) (begin end : Run) → pieces ≡ front ++ Token begin ∷ (mid ++ Token end ∷ rest)
      → pieces ++ more ≡ front ++ Token begin ∷ (mid ++ Token end ∷ (rest ++ more))
  longer front mid rest pieces more begin end e =
      ap (λ ps. ps ++ more) e
      ∙ append_assoc front (Token begin ∷ (mid ++ Token end ∷ rest)) more
      ∙ ap (λ ps. front ++ Token begin ∷ ps) (append_assoc mid (Token end ∷ rest) more)

  -- pieces more change none of the proofs
  pub is_proof_up : (pieces more : List Piece) (from to : ℕ) → IsProof pieces from to → IsProof (pieces ++ more) from to
  is_proof_up pieces more from to is = record {
    front = is.front;
    begin = is.begin;
    mid = is.mid;
    end = is.end;
    rest = is.rest ++ more;
    whole = longer is.front is.mid is.rest pieces more is.begin is.end is.whole;
    begins = is.begins;
    plain = is.plain;
    ends = is.ends;
    from_is = is.from_is;
    to_is = is.to_is;
  }

  proofs_up : (pieces more : List Piece) (past : List Event) → AreProofs pieces past → AreProofs (pieces ++ more) past
  unfolding is_proof_up
  proofs_up pieces more [] p = tt
  proofs_up pieces more (theorem l ss from to d ∷ past) p = (is_proof_up pieces more from to p.0, p.1)
  proofs_up pieces more (constant t n ∷ past) p = proofs_up pieces more past p
  proofs_up pieces more (variable t n ∷ past) p = proofs_up pieces more past p
  proofs_up pieces more (float l ss d ∷ past) p = proofs_up pieces more past p
  proofs_up pieces more (essential l ss d ∷ past) p = proofs_up pieces more past p
  proofs_up pieces more (asserted l ss d ∷ past) p = proofs_up pieces more past p
  proofs_up pieces more (distinct ss ∷ past) p = proofs_up pieces more past p
  proofs_up pieces more (opened q ∷ past) p = proofs_up pieces more past p
  proofs_up pieces more (closed ∷ past) p = proofs_up pieces more past p

  begun_on : (pieces more : List Piece) (from : ℕ) (past : List Event) → ArePlain bytes more → IsBegun pieces from past → IsBegun (pieces ++ more) from past
  begun_on pieces more from past plain b = record {
    front = b.front;
    begin = b.begin;
    mid = b.mid ++ more;
    whole = ap (λ ps. ps ++ more) b.whole ∙ append_assoc b.front (Token b.begin ∷ b.mid) more;
    begins = b.begins;
    plain = plain_append bytes b.mid more b.plain plain;
    from_is = b.from_is;
    earlier = b.earlier;
  }

  begun_up : (pieces more : List Piece) (m : Mode) (from : ℕ) (past : List Event) → ArePlain bytes more → Begun pieces m from past → Begun (pieces ++ more) m from past
  begun_up pieces more mode.Proof from past plain b = begun_on pieces more from past plain b
  begun_up pieces more mode.Start from past plain b = tt
  begun_up pieces more mode.Labelled from past plain b = tt
  begun_up pieces more mode.Constants from past plain b = tt
  begun_up pieces more mode.Variables from past plain b = tt
  begun_up pieces more mode.Distinct from past plain b = tt
  begun_up pieces more mode.Float from past plain b = tt
  begun_up pieces more mode.Essential from past plain b = tt
  begun_up pieces more mode.Axiom from past plain b = tt
  begun_up pieces more mode.Theorem from past plain b = tt

  commented : (pieces : List Piece) (s : Reading) (c : Span) → Follows pieces s → Follows (pieces ++ Comment c ∷ []) (with_comment s c)
  commented pieces s c g = record { proofs = proofs_up pieces (Comment c ∷ []) s.context g.proofs; begun = begun_up pieces (Comment c ∷ []) s.mode s.proof s.context tt g.begun }

  module _ (pieces : List Piece) (k : Run) where
    abbrev next : List Piece
    next = pieces ++ Token k ∷ []

    abbrev Next : Reading → Type 0
    Next s = Follows next s

    raised : (past : List Event) → AreProofs pieces past → AreProofs next past
    raised past p = proofs_up pieces (Token k ∷ []) past p

    -- no proof is begun in a mode
    abbrev Idle : Reading → Type 0
    Idle s = (past : List Event) → Begun next s.mode s.proof past

    between : (past : List Event) (from : ℕ) → AreProofs next past → FollowsAt next past mode.Start from
    between past from p = record { proofs = p; begun = tt }

    label_follows : (s : Reading) (a : Answers) (t : List ℕ) (p : ℕ) → Follows pieces s → IfFine (a_label s a t p) Next
    unfolding a_label
    label_follows s a t p g =
        fine_if (is_bad_label t) _ _ Next tt
        (fine_if (a.label || a.known) _ _ Next tt
        (fine_if (nat_lt most_label (length t)) _ _ Next tt
        (record { proofs = raised s.context g.proofs; begun = tt })))

    constant_follows : (s : Reading) (a : Answers) (t : List ℕ) (p : ℕ) → Idle s → Follows pieces s → IfFine (a_constant put s a t p) Next
    unfolding a_constant
    constant_follows s a t p idle g =
        fine_if (is_bad_symbol t) _ _ Next tt
        (fine_if (a.known || a.label) _ _ Next tt
        (fine_if (is_full s) _ _ Next tt
        (record { proofs = raised s.context g.proofs; begun = idle (constant t a.number ∷ s.context) })))

    variable_follows : (s : Reading) (a : Answers) (t : List ℕ) (p : ℕ) → Idle s → Follows pieces s → IfFine (a_variable put s a t p) Next
    unfolding a_variable
    variable_follows s a t p idle g =
        fine_if (is_bad_symbol t) _ _ Next tt
        (fine_if (a.active || a.constant || a.label) _ _ Next tt
        (fine_if (is_full s) _ _ Next tt
        (record { proofs = raised s.context g.proofs; begun = idle (variable t a.number ∷ s.context) })))

    distinct_follows : (s : Reading) (a : Answers) (p : ℕ) → Idle s → Follows pieces s → IfFine (a_distinct s a p) Next
    unfolding a_distinct
    distinct_follows s a p idle g =
        fine_if (not (a.constant || a.active)) _ _ Next tt
        (fine_if (a.constant || list_any (nat_eq a.number) s.buffer) _ _ Next tt
        (fine_if (is_full s) _ _ Next tt
        (record { proofs = raised s.context g.proofs; begun = idle s.context })))

    float_follows : (s : Reading) (a : Answers) (p : ℕ) → Idle s → Follows pieces s → IfFine (a_float s a p) Next
    unfolding a_float
    float_follows s a p idle g =
        fine_if (not (a.constant || a.active)) _ _ Next tt
        (fine_if (nat_eq (length s.buffer) 0) _ _ Next
        (fine_if a.constant _ _ Next (record { proofs = raised s.context g.proofs; begun = idle s.context }) tt)
        (fine_if (nat_lt 1 (length s.buffer) || a.constant) _ _ Next tt
        (fine_if a.floated _ _ Next tt
        (record { proofs = raised s.context g.proofs; begun = idle s.context }))))

    fine_unless : (cs : List (Bool × ReadFault)) (x : Reading) → Next x → IfFine (unless cs (Ok x)) Next
    fine_unless [] x h = h
    fine_unless (c ∷ cs) x h = fine_if c.0 (Err c.1) (unless cs (Ok x)) Next tt (fine_unless cs x h)

    symbol_follows : (s : Reading) (a : Answers) (p : ℕ) → Idle s → Follows pieces s → IfFine (a_symbol s a p) Next
    unfolding a_symbol
    symbol_follows s a p idle g = fine_unless (symbol_checks s a p) (take_symbol s a.number) (record { proofs = raised s.context g.proofs; begun = idle s.context })

    text_follows : (s : Reading) (m : Mode) (a : Answers) (t : List ℕ) (p : ℕ) → s.mode ≡ m → word_of (text_of bytes k) ≡ word.Text → Follows pieces s → IfFine (at_text put s m a t p) Next
    unfolding at_text
    text_follows s mode.Start a t p e w g = label_follows s a t p g
    text_follows s mode.Labelled a t p e w g = tt
    text_follows s mode.Constants a t p e w g = constant_follows s a t p (λ past. subst (λ m. Begun next m s.proof past) (sym e) tt) g
    text_follows s mode.Variables a t p e w g = variable_follows s a t p (λ past. subst (λ m. Begun next m s.proof past) (sym e) tt) g
    text_follows s mode.Distinct a t p e w g = distinct_follows s a p (λ past. subst (λ m. Begun next m s.proof past) (sym e) tt) g
    text_follows s mode.Float a t p e w g = float_follows s a p (λ past. subst (λ m. Begun next m s.proof past) (sym e) tt) g
    text_follows s mode.Essential a t p e w g = symbol_follows s a p (λ past. subst (λ m. Begun next m s.proof past) (sym e) tt) g
    text_follows s mode.Axiom a t p e w g = symbol_follows s a p (λ past. subst (λ m. Begun next m s.proof past) (sym e) tt) g
    text_follows s mode.Theorem a t p e w g = symbol_follows s a p (λ past. subst (λ m. Begun next m s.proof past) (sym e) tt) g
    text_follows s mode.Proof a t p e w g = record { proofs = raised s.context g.proofs; begun = begun_up pieces (Token k ∷ []) s.mode s.proof s.context (w, tt) g.begun }

    ended_proof : (s : Reading) → word_of (text_of bytes k) ≡ word.End → IsBegun pieces s.proof s.context → IsProof next s.proof k.start
    ended_proof s w b = record {
      front = b.front;
      begin = b.begin;
      mid = b.mid;
      end = k;
      rest = [];
      whole = ap (λ ps. ps ++ Token k ∷ []) b.whole ∙ append_assoc b.front (Token b.begin ∷ b.mid) (Token k ∷ []);
      begins = b.begins;
      plain = b.plain;
      ends = w;
      from_is = b.from_is;
      to_is = refl;
    }

    end_follows : (s : Reading) (m : Mode) → s.mode ≡ m → word_of (text_of bytes k) ≡ word.End → Follows pieces s → IfFine (at_end put s m k.start) Next
    unfolding at_end ended_proof
    end_follows s mode.Start e w g = tt
    end_follows s mode.Labelled e w g = tt
    end_follows s mode.Constants e w g = fine_if (nat_eq (length s.buffer) 0) _ _ Next tt (between s.context s.proof (raised s.context g.proofs))
    end_follows s mode.Variables e w g = fine_if (nat_eq (length s.buffer) 0) _ _ Next tt (between s.context s.proof (raised s.context g.proofs))
    end_follows s mode.Distinct e w g = fine_if (nat_lt (length s.buffer) 2) _ _ Next tt (between (distinct s.buffer ∷ s.context) s.proof (raised s.context g.proofs))
    end_follows s mode.Float e w g = fine_if (nat_eq (length s.buffer) 2) _ _ Next (between (float s.label s.buffer s.described ∷ s.context) s.proof (raised s.context g.proofs)) tt
    end_follows s mode.Essential e w g = fine_if (nat_eq (length s.buffer) 0) _ _ Next tt (between (essential s.label s.buffer s.described ∷ s.context) s.proof (raised s.context g.proofs))
    end_follows s mode.Axiom e w g = fine_if (nat_eq (length s.buffer) 0) _ _ Next tt (between (asserted s.label s.buffer s.described ∷ s.context) s.proof (raised s.context g.proofs))
    end_follows s mode.Theorem e w g = tt
    end_follows s mode.Proof e w g =
        let b : IsBegun pieces s.proof s.context = subst (λ m. Begun pieces m s.proof s.context) e g.begun in
        between (theorem s.label s.buffer s.proof k.start s.described ∷ s.context) s.proof (ended_proof s w b, b.earlier)

    proof_follows : (s : Reading) (m : Mode) → word_of (text_of bytes k) ≡ word.Proof → Follows pieces s → IfFine (at_proof s m k.start) Next
    unfolding at_proof
    proof_follows s mode.Theorem w g = fine_if (nat_eq (length s.buffer) 0) _ _ Next tt (record {
      proofs = raised s.context g.proofs;
      begun = record { front = pieces; begin = k; mid = []; whole = refl; begins = w; plain = tt; from_is = refl; earlier = g.proofs };
    })
    proof_follows s _ w g = tt

    unlabelled_follows : (s : Reading) (m n : Mode) (p : ℕ) → Begun next n s.proof s.context → Follows pieces s → IfFine (unlabelled s m n p) Next
    unfolding unlabelled
    unlabelled_follows s mode.Start n p b g = record { proofs = raised s.context g.proofs; begun = b }
    unlabelled_follows s mode.Labelled n p b g = tt
    unlabelled_follows s _ n p b g = tt

    labelled_follows : (s : Reading) (m n : Mode) (p : ℕ) → Begun next n s.proof s.context → Follows pieces s → IfFine (labelled s m n p) Next
    unfolding labelled
    labelled_follows s mode.Labelled n p b g = record { proofs = raised s.context g.proofs; begun = b }
    labelled_follows s mode.Start n p b g = tt
    labelled_follows s _ n p b g = tt

    constants_follows : (s : Reading) (m : Mode) (deep : Bool) (p : ℕ) → Follows pieces s → IfFine (at_constants s m deep p) Next
    unfolding at_constants
    constants_follows s mode.Start deep p g = fine_if deep _ _ Next tt (record { proofs = raised s.context g.proofs; begun = tt })
    constants_follows s mode.Labelled deep p g = fine_if deep _ _ Next tt tt
    constants_follows s _ deep p g = tt

    open_follows : (s : Reading) (m : Mode) (p : ℕ) → s.mode ≡ m → Follows pieces s → IfFine (at_open put s m p) Next
    unfolding at_open
    open_follows s mode.Start p e g = record { proofs = raised s.context g.proofs; begun = subst (λ m. Begun next m s.proof (opened p ∷ s.context)) (sym e) tt }
    open_follows s mode.Labelled p e g = tt
    open_follows s _ p e g = tt

    close_follows : (s : Reading) (m : Mode) (deep : Bool) (p : ℕ) → s.mode ≡ m → Follows pieces s → IfFine (at_close put s m deep p) Next
    unfolding at_close
    close_follows s mode.Start deep p e g =
        fine_if deep _ _ Next (record { proofs = raised s.context g.proofs; begun = subst (λ m. Begun next m s.proof (closed ∷ s.context)) (sym e) tt }) tt
    close_follows s mode.Labelled deep p e g = tt
    close_follows s _ deep p e g = tt

    word_follows : (s : Reading) (a : Answers) (w : Word) (t : List ℕ) → word_of (text_of bytes k) ≡ w → Follows pieces s → IfFine (step_by put s a w t k.start) Next
    unfolding step_by
    word_follows s a word.Unknown t w g = tt
    word_follows s a word.Inclusion t w g = tt
    word_follows s a word.Text t w g = text_follows s s.mode a t k.start refl w g
    word_follows s a word.End t w g = end_follows s s.mode refl w g
    word_follows s a word.Proof t w g = proof_follows s s.mode w g
    word_follows s a word.Constants t w g = constants_follows s s.mode a.deep k.start g
    word_follows s a word.Variables t w g = unlabelled_follows s s.mode mode.Variables k.start tt g
    word_follows s a word.Distinct t w g = unlabelled_follows s s.mode mode.Distinct k.start tt g
    word_follows s a word.Open t w g = open_follows s s.mode k.start refl g
    word_follows s a word.Close t w g = close_follows s s.mode a.deep k.start refl g
    word_follows s a word.Float t w g = labelled_follows s s.mode mode.Float k.start tt g
    word_follows s a word.Essential t w g = labelled_follows s s.mode mode.Essential k.start tt g
    word_follows s a word.Axiom t w g = labelled_follows s s.mode mode.Axiom k.start tt g
    word_follows s a word.Theorem t w g = labelled_follows s s.mode mode.Theorem k.start tt g

    step_follows : (s : Reading) → Follows pieces s → IfFine (step put look_back bytes s k) Next
    step_follows s g = word_follows s (look_back s.context (text_of bytes k)) (word_of (text_of bytes k)) (text_of bytes k) refl g

  -- so it stays while pieces are read
  pub reading_follows : (done : List Piece) (s : Reading) (ps : List Piece) → AreEnded ps → Follows done s → IfFine (reading bytes s ps) (Follows (done ++ ps))
  unfolding read_from
  reading_follows done s [] e g = subst (λ ps. Follows ps s) (sym (append-nil done)) g
  reading_follows done s (Comment c ∷ ps) e g =
      subst (λ qs. IfFine (reading bytes (with_comment s c) ps) (Follows qs)) (append_assoc done (Comment c ∷ []) ps)
      (reading_follows (done ++ Comment c ∷ []) (with_comment s c) ps e (commented done s c g))
  reading_follows done s (Token k ∷ ps) e g =
      subst (λ qs. IfFine (after (step put look_back bytes s k) (λ t. reading bytes (without_comment t) ps)) (Follows qs)) (append_assoc done (Token k ∷ []) ps)
      (by (step put look_back bytes s k) (step_follows done k s g) (λ t h. reading_follows (done ++ Token k ∷ []) (without_comment t) ps e h))
    where
      by : (r : Result Reading ReadFault) → IfFine r (Follows (done ++ Token k ∷ []))
          → ((t : Reading) → Follows (done ++ Token k ∷ []) t → IfFine (reading bytes (without_comment t) ps) (Follows (done ++ Token k ∷ [] ++ ps)))
          → IfFine (after r (λ t. reading bytes (without_comment t) ps)) (Follows (done ++ Token k ∷ [] ++ ps))
      by (Ok t) h later = later t h
      by (Err x) h later = tt
  reading_follows done s (Open p ∷ ps) e g = absurd e
