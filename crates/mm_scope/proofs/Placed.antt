-- A proof stands among the bytes, its end after its beginning.
use Rattle.std.proofs.Common.{◌≡◌, ◌<◌, ◌≤◌, ℕ, ◌+◌, ◌-◌, Bool, true, false, cond, not, ◌||◌, List, [], ◌∷◌, ◌++◌, length, drop, slice_range, slice_index, nat_eq, nat_lt, Result, Ok, Err, refl, ap, arith, ◌⊎◌, inl, inr, length-append}
use Rattle.std.proofs.lemmas.Bool.{false≢true, eqb-true}
use Rattle.std.proofs.lemmas.List.{length-take, get_or_append_left}
use Rattle.std.proofs.Math.Seq.{get_or-append_seam}
use Rattle.std.specs.List.{list_any}
use Rattle.mm_tokens.specs.declared.pieces.Token.{Token as Run}
use Rattle.mm_tokens.specs.declared.pieces.Piece.{Piece}
use Rattle.mm_tokens.specs.declared.pieces.Piece.TheVariants.{Token, Comment, Open}
use Rattle.mm_scope.specs.Events.{Event, put, constant, variable, float, essential, asserted, theorem, distinct, opened, closed, statements}
use Rattle.mm_scope.specs.Looks.{look_back}
use Rattle.mm_stated.specs.Mandatory.{statement_at}
use Rattle.mm_scope.specs.Reading.{text_of, after, step, read_from, with_comment, without_comment}
use Rattle.mm_stated.specs.Stated.{Stated, no_statement}
use Rattle.mm_scope.specs.Steps.{most_label, Answers, State, symbol_checks, take_symbol, is_full, a_label, a_constant, a_variable, a_float, a_symbol, a_distinct, at_text, at_end, at_proof, unlabelled, at_constants, labelled, at_open, at_close, step_by}
use Rattle.mm_tokens.specs.Words.{word_of, keyword_of, is_bad_label, is_bad_symbol}
use Rattle.mm_scope.specs.declared.fault.ReadFault.{ReadFault}
use Rattle.mm_scope.specs.declared.mode.Mode.{Mode}
use Rattle.mm_scope.specs.declared.mode.Mode.TheVariants as mode
use Rattle.mm_tokens.specs.declared.word.Word.{Word}
use Rattle.mm_tokens.specs.declared.word.Word.TheVariants as word
use Rattle.mm_scope.proofs.Kept.{fine_if, fine_unless}
use Rattle.mm_scope.proofs.Ordered.{InOrder}
use Rattle.mm_scope.proofs.Stacks.{below_or}
use Rattle.mm_scope.proofs.Whole.{IfFine}

-- each proof stands before a place
abbrev pub ProofsPlaced : ℕ → List Event → Type 0
ProofsPlaced high [] = Unit {0}
ProofsPlaced high (theorem l ss from to d ∷ past) = (from ≤ to) × (to ≤ high) × ProofsPlaced high past
ProofsPlaced high (_ ∷ past) = ProofsPlaced high past

-- and so does the beginning of one that is not ended
abbrev pub ProofBegun : ℕ → Mode → ℕ → Type 0
ProofBegun high mode.Proof proof = proof ≤ high
ProofBegun high _ proof = Unit {0}

pub record PlacedAt (high : ℕ) (past : List Event) (m : Mode) (proof : ℕ) : Type 0 where
  pub proofs : ProofsPlaced high past
  pub begun : ProofBegun high m proof

abbrev pub Placed : ℕ → State (List Event) → Type 0
Placed high s = PlacedAt high s.context s.mode s.proof

proofs_up : (low high : ℕ) → low ≤ high → (past : List Event) → ProofsPlaced low past → ProofsPlaced high past
proofs_up low high h [] p = tt
proofs_up low high h (theorem l ss from to d ∷ past) p = (p.0, omega (arith, p.1, h), proofs_up low high h past p.2)
proofs_up low high h (constant t n ∷ past) p = proofs_up low high h past p
proofs_up low high h (variable t n ∷ past) p = proofs_up low high h past p
proofs_up low high h (float l ss d ∷ past) p = proofs_up low high h past p
proofs_up low high h (essential l ss d ∷ past) p = proofs_up low high h past p
proofs_up low high h (asserted l ss d ∷ past) p = proofs_up low high h past p
proofs_up low high h (distinct ss ∷ past) p = proofs_up low high h past p
proofs_up low high h (opened q ∷ past) p = proofs_up low high h past p
proofs_up low high h (closed ∷ past) p = proofs_up low high h past p

begun_up : (low high : ℕ) → low ≤ high → (m : Mode) (proof : ℕ) → ProofBegun low m proof → ProofBegun high m proof
begun_up low high h mode.Proof proof b = omega (arith, b, h)
begun_up low high h _ proof b = tt

module _ (low high : ℕ) (up : low ≤ high) where
  -- what stays placed
  raised : (s : State (List Event)) → Placed low s → Placed high s
  raised s g = record { proofs = proofs_up low high up s.context g.proofs; begun = begun_up low high up s.mode s.proof g.begun }

  between : (past : List Event) (proof : ℕ) → ProofsPlaced high past → PlacedAt high past mode.Start proof
  between past proof p = record { proofs = p; begun = tt }

  label_placed : (s : State (List Event)) (a : Answers) (t : List ℕ) (p : ℕ) → Placed low s → IfFine (a_label s a t p) (Placed high)
  unfolding a_label
  label_placed s a t p g =
      fine_if (is_bad_label t) _ _ (Placed high) (λ _. tt) (λ _.
      fine_if (a.label || a.known) _ _ (Placed high) (λ _. tt) (λ _.
      fine_if (nat_lt most_label (length t)) _ _ (Placed high) (λ _. tt) (λ _.
      record { proofs = (raised s g).proofs; begun = tt })))

  constant_placed : (s : State (List Event)) (a : Answers) (t : List ℕ) (p : ℕ) → Placed low s → IfFine (a_constant put s a t p) (Placed high)
  unfolding a_constant
  constant_placed s a t p g =
      fine_if (is_bad_symbol t) _ _ (Placed high) (λ _. tt) (λ _.
      fine_if (a.known || a.label) _ _ (Placed high) (λ _. tt) (λ _.
      fine_if (is_full s) _ _ (Placed high) (λ _. tt) (λ _.
      record { proofs = (raised s g).proofs; begun = (raised s g).begun })))

  variable_placed : (s : State (List Event)) (a : Answers) (t : List ℕ) (p : ℕ) → Placed low s → IfFine (a_variable put s a t p) (Placed high)
  unfolding a_variable
  variable_placed s a t p g =
      fine_if (is_bad_symbol t) _ _ (Placed high) (λ _. tt) (λ _.
      fine_if (a.active || a.constant || a.label) _ _ (Placed high) (λ _. tt) (λ _.
      fine_if (is_full s) _ _ (Placed high) (λ _. tt) (λ _.
      record { proofs = (raised s g).proofs; begun = (raised s g).begun })))

  distinct_placed : (s : State (List Event)) (a : Answers) (p : ℕ) → Placed low s → IfFine (a_distinct s a p) (Placed high)
  unfolding a_distinct
  distinct_placed s a p g =
      fine_if (not (a.constant || a.active)) _ _ (Placed high) (λ _. tt) (λ _.
      fine_if (a.constant || list_any (nat_eq a.number) s.buffer) _ _ (Placed high) (λ _. tt) (λ _.
      fine_if (is_full s) _ _ (Placed high) (λ _. tt) (λ _.
      record { proofs = (raised s g).proofs; begun = (raised s g).begun })))

  float_placed : (s : State (List Event)) (a : Answers) (p : ℕ) → Placed low s → IfFine (a_float s a p) (Placed high)
  unfolding a_float
  float_placed s a p g =
      fine_if (not (a.constant || a.active)) _ _ (Placed high) (λ _. tt) (λ _.
      fine_if (nat_eq (length s.buffer) 0) _ _ (Placed high)
      (λ _. fine_if a.constant _ _ (Placed high) (λ _. record { proofs = (raised s g).proofs; begun = (raised s g).begun }) (λ _. tt)) (λ _.
      fine_if (nat_lt 1 (length s.buffer) || a.constant) _ _ (Placed high) (λ _. tt) (λ _.
      fine_if a.floated _ _ (Placed high) (λ _. tt) (λ _.
      record { proofs = (raised s g).proofs; begun = (raised s g).begun }))))

  symbol_placed : (s : State (List Event)) (a : Answers) (p : ℕ) → Placed low s → IfFine (a_symbol s a p) (Placed high)
  unfolding a_symbol
  symbol_placed s a p g =
      fine_unless (symbol_checks s a p) (take_symbol s a.number) (Placed high) (λ _. record { proofs = (raised s g).proofs; begun = (raised s g).begun })

  text_placed : (s : State (List Event)) (m : Mode) (a : Answers) (t : List ℕ) (p : ℕ) → Placed low s → IfFine (at_text put s m a t p) (Placed high)
  unfolding at_text
  text_placed s mode.Start a t p g = label_placed s a t p g
  text_placed s mode.Labelled a t p g = tt
  text_placed s mode.Constants a t p g = constant_placed s a t p g
  text_placed s mode.Variables a t p g = variable_placed s a t p g
  text_placed s mode.Distinct a t p g = distinct_placed s a p g
  text_placed s mode.Float a t p g = float_placed s a p g
  text_placed s mode.Essential a t p g = symbol_placed s a p g
  text_placed s mode.Axiom a t p g = symbol_placed s a p g
  text_placed s mode.Theorem a t p g = symbol_placed s a p g
  text_placed s mode.Proof a t p g = raised s g

  end_placed : (s : State (List Event)) (m : Mode) (p : ℕ) → low ≤ p → p ≤ high → PlacedAt low s.context m s.proof → IfFine (at_end put s m p) (Placed high)
  unfolding at_end
  end_placed s mode.Start p from to g = tt
  end_placed s mode.Labelled p from to g = tt
  end_placed s mode.Constants p from to g = fine_if (nat_eq (length s.buffer) 0) _ _ (Placed high) (λ _. tt) (λ _. between s.context s.proof (proofs_up low high up s.context g.proofs))
  end_placed s mode.Variables p from to g = fine_if (nat_eq (length s.buffer) 0) _ _ (Placed high) (λ _. tt) (λ _. between s.context s.proof (proofs_up low high up s.context g.proofs))
  end_placed s mode.Distinct p from to g =
      fine_if (nat_lt (length s.buffer) 2) _ _ (Placed high) (λ _. tt) (λ _. between (distinct s.buffer ∷ s.context) s.proof (proofs_up low high up s.context g.proofs))
  end_placed s mode.Float p from to g =
      fine_if (nat_eq (length s.buffer) 2) _ _ (Placed high) (λ _. between (float s.label s.buffer s.described ∷ s.context) s.proof (proofs_up low high up s.context g.proofs)) (λ _. tt)
  end_placed s mode.Essential p from to g =
      fine_if (nat_eq (length s.buffer) 0) _ _ (Placed high) (λ _. tt) (λ _. between (essential s.label s.buffer s.described ∷ s.context) s.proof (proofs_up low high up s.context g.proofs))
  end_placed s mode.Axiom p from to g =
      fine_if (nat_eq (length s.buffer) 0) _ _ (Placed high) (λ _. tt) (λ _. between (asserted s.label s.buffer s.described ∷ s.context) s.proof (proofs_up low high up s.context g.proofs))
  end_placed s mode.Theorem p from to g = tt
  end_placed s mode.Proof p from to g =
      between (theorem s.label s.buffer s.proof p s.described ∷ s.context) s.proof (omega (arith, g.begun, from), to, proofs_up low high up s.context g.proofs)

  proof_placed : (s : State (List Event)) (m : Mode) (p : ℕ) → p + 2 ≤ high → Placed low s → IfFine (at_proof s m p) (Placed high)
  unfolding at_proof
  proof_placed s mode.Theorem p to g = fine_if (nat_eq (length s.buffer) 0) _ _ (Placed high) (λ _. tt) (λ _. record { proofs = (raised s g).proofs; begun = to })
  proof_placed s _ p to g = tt

  unlabelled_placed : (s : State (List Event)) (m n : Mode) (p : ℕ) → ProofBegun high n s.proof → Placed low s → IfFine (unlabelled s m n p) (Placed high)
  unfolding unlabelled
  unlabelled_placed s mode.Start n p b g = record { proofs = (raised s g).proofs; begun = b }
  unlabelled_placed s mode.Labelled n p b g = tt
  unlabelled_placed s _ n p b g = tt

  labelled_placed : (s : State (List Event)) (m n : Mode) (p : ℕ) → ProofBegun high n s.proof → Placed low s → IfFine (labelled s m n p) (Placed high)
  unfolding labelled
  labelled_placed s mode.Labelled n p b g = record { proofs = (raised s g).proofs; begun = b }
  labelled_placed s mode.Start n p b g = tt
  labelled_placed s _ n p b g = tt

  constants_placed : (s : State (List Event)) (m : Mode) (deep : Bool) (p : ℕ) → Placed low s → IfFine (at_constants s m deep p) (Placed high)
  unfolding at_constants
  constants_placed s mode.Start deep p g = fine_if deep _ _ (Placed high) (λ _. tt) (λ _. record { proofs = (raised s g).proofs; begun = tt })
  constants_placed s mode.Labelled deep p g = fine_if deep _ _ (Placed high) (λ _. tt) (λ _. tt)
  constants_placed s _ deep p g = tt

  open_placed : (s : State (List Event)) (m : Mode) (p : ℕ) → Placed low s → IfFine (at_open put s m p) (Placed high)
  unfolding at_open
  open_placed s mode.Start p g = record { proofs = (raised s g).proofs; begun = (raised s g).begun }
  open_placed s mode.Labelled p g = tt
  open_placed s _ p g = tt

  close_placed : (s : State (List Event)) (m : Mode) (deep : Bool) (p : ℕ) → Placed low s → IfFine (at_close put s m deep p) (Placed high)
  unfolding at_close
  close_placed s mode.Start deep p g = fine_if deep _ _ (Placed high) (λ _. record { proofs = (raised s g).proofs; begun = (raised s g).begun }) (λ _. tt)
  close_placed s mode.Labelled deep p g = tt
  close_placed s _ deep p g = tt

  step_placed : (s : State (List Event)) (a : Answers) (w : Word) (t : List ℕ) (p : ℕ) → low ≤ p → p ≤ high → (w ≡ word.Proof → p + 2 ≤ high) → Placed low s
      → IfFine (step_by put s a w t p) (Placed high)
  unfolding step_by
  step_placed s a word.Unknown t p from to two g = tt
  step_placed s a word.Inclusion t p from to two g = tt
  step_placed s a word.Text t p from to two g = text_placed s s.mode a t p g
  step_placed s a word.End t p from to two g = end_placed s s.mode p from to g
  step_placed s a word.Proof t p from to two g = proof_placed s s.mode p (two refl) g
  step_placed s a word.Constants t p from to two g = constants_placed s s.mode a.deep p g
  step_placed s a word.Variables t p from to two g = unlabelled_placed s s.mode mode.Variables p tt g
  step_placed s a word.Distinct t p from to two g = unlabelled_placed s s.mode mode.Distinct p tt g
  step_placed s a word.Open t p from to two g = open_placed s s.mode p g
  step_placed s a word.Close t p from to two g = close_placed s s.mode a.deep p g
  step_placed s a word.Float t p from to two g = labelled_placed s s.mode mode.Float p tt g
  step_placed s a word.Essential t p from to two g = labelled_placed s s.mode mode.Essential p tt g
  step_placed s a word.Axiom t p from to two g = labelled_placed s s.mode mode.Axiom p tt g
  step_placed s a word.Theorem t p from to two g = labelled_placed s s.mode mode.Theorem p tt g

-- `$=` has two bytes
abbrev is_proof : Word → Bool
is_proof word.Proof = true
is_proof _ = false

proof_length : (b c : Bool) (w : Word) → cond b word.Text (cond c w word.Unknown) ≡ word.Proof → c ≡ true
proof_length true c w e = absurd (false≢true (ap is_proof e))
proof_length false true w e = refl
proof_length false false w e = absurd (false≢true (ap is_proof e))

two_bytes : (t : List ℕ) → word_of t ≡ word.Proof → length t ≡ 2
unfolding word_of
two_bytes t e = eqb-true (length t) 2 (proof_length _ (nat_eq (length t) 2) (keyword_of (slice_index t 1)) e)

at_most : (bytes : List ℕ) (a b : ℕ) → length (slice_range bytes a b) ≤ b - a
at_most bytes a b = omega (arith, length-take (b - a) (drop a bytes))

placed_step : (bytes : List ℕ) (s : State (List Event)) (k : Run) (low : ℕ) → low ≤ k.start → k.start ≤ k.end → Placed low s → IfFine (step put look_back bytes s k) (Placed k.end)
placed_step bytes s k low from to g =
    let t : List ℕ = text_of bytes k in
    step_placed low k.end (omega (arith, from, to)) s (look_back s.context t) (word_of t) t k.start from to
    (λ e. omega (arith, to, two_bytes t e, at_most bytes k.start k.end)) g

pub placed_read : (bytes : List ℕ) (n : ℕ) (ps : List Piece) (s : State (List Event)) (low : ℕ) → low ≤ n → InOrder n low ps → Placed low s
    → IfFine (read_from put look_back bytes s ps) (Placed n)
unfolding read_from
placed_read bytes n [] s low h o g = raised low n h s g
placed_read bytes n (Open p ∷ ps) s low h o g = raised low n h s g
placed_read bytes n (Comment c ∷ ps) s low h o g = placed_read bytes n ps (with_comment s c) low h o g
placed_read bytes n (Token k ∷ ps) s low h o g =
    by (step put look_back bytes s k) (placed_step bytes s k low o.0 o.1 g) (λ t f. placed_read bytes n ps (without_comment t) k.end o.2 o.3 f)
  where
    by : (r : Result (State (List Event)) ReadFault) → IfFine r (Placed k.end)
        → ((t : State (List Event)) → Placed k.end t → IfFine (read_from put look_back bytes (without_comment t) ps) (Placed n))
        → IfFine (after r (λ t. read_from put look_back bytes (without_comment t) ps)) (Placed n)
    by (Ok t) f later = later t f
    by (Err e) f later = tt

-- so each statement's proof stands among the bytes
abbrev pub AllPlaced : ℕ → List Stated → Type 0
AllPlaced n ss = (id : ℕ) → id < length ss → ((statement_at ss id).from ≤ (statement_at ss id).to) × ((statement_at ss id).to ≤ n)

placed_by : (n : ℕ) (ss : List Stated) (x : Stated) → AllPlaced n ss → x.from ≤ x.to → x.to ≤ n → (id : ℕ) → id < length (ss ++ x ∷ []) → (id < length ss) ⊎ (length ss ≤ id)
    → ((statement_at (ss ++ x ∷ []) id).from ≤ (statement_at (ss ++ x ∷ []) id).to) × ((statement_at (ss ++ x ∷ []) id).to ≤ n)
placed_by n ss x all from to id h (inl less) = rw (get_or_append_left ss (x ∷ []) no_statement id less) (all id less)
placed_by n ss x all from to id h (inr more) =
    let same : id ≡ length ss = omega (arith, length-append ss (x ∷ []), h, more) in
    rw (same, get_or-append_seam ss x [] no_statement) (from, to)

one_placed : (n : ℕ) (ss : List Stated) (x : Stated) → AllPlaced n ss → x.from ≤ x.to → x.to ≤ n → AllPlaced n (ss ++ x ∷ [])
one_placed n ss x all from to id h = placed_by n ss x all from to id h (below_or id (length ss))

none_there : (n : ℕ) → AllPlaced n []
none_there n id h = absurd (omega (arith, h))

pub all_placed : (n : ℕ) (past : List Event) → ProofsPlaced n past → AllPlaced n (statements past)
unfolding statements
all_placed n [] p = none_there n
all_placed n (theorem l ss from to d ∷ past) p = one_placed n (statements past) _ (all_placed n past p.2) p.0 p.1
all_placed n (constant t k ∷ past) p = all_placed n past p
all_placed n (variable t k ∷ past) p = all_placed n past p
all_placed n (float l ss d ∷ past) p = one_placed n (statements past) _ (all_placed n past p) (omega arith) (omega arith)
all_placed n (essential l ss d ∷ past) p = one_placed n (statements past) _ (all_placed n past p) (omega arith) (omega arith)
all_placed n (asserted l ss d ∷ past) p = one_placed n (statements past) _ (all_placed n past p) (omega arith) (omega arith)
all_placed n (distinct ss ∷ past) p = all_placed n past p
all_placed n (opened q ∷ past) p = all_placed n past p
all_placed n (closed ∷ past) p = all_placed n past p
