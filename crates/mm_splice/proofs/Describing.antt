-- The comments that describe statements, and the proofs of theorems, stand in order.
use Rattle.std.proofs.Common.{◌≡◌, ℕ, ◌+◌, ◌≤◌, Bool, not, ◌||◌, List, [], ◌∷◌, ◌++◌, Option, None, Some, length, nat_eq, nat_lt, Result, Ok, Err, refl, sym, subst, arith, ◌⊎◌, inl, inr}
use Rattle.std.specs.List.{list_any}
use Rattle.mm_tokens.specs.declared.pieces.Span.{Span}
use Rattle.mm_tokens.specs.declared.pieces.Piece.{Piece}
use Rattle.mm_tokens.specs.declared.pieces.Piece.TheVariants.{Token, Comment, Open}
use Rattle.mm_tokens.specs.Pieces.{pieces_of}
use Rattle.mm_tokens.specs.Words.{word_of, is_bad_label, is_bad_symbol}
use Rattle.mm_tokens.specs.declared.word.Word.{Word}
use Rattle.mm_tokens.specs.declared.word.Word.TheVariants as word
use Rattle.mm_scope.specs.Databases.{nothing_read}
use Rattle.mm_scope.specs.Events.{Event, put, constant, variable, float, essential, asserted, theorem, distinct, opened, closed, statements, open_blocks}
use Rattle.mm_scope.specs.Looks.{look_back}
use Rattle.mm_stated.specs.Mandatory.{statement_at}
use Rattle.mm_scope.specs.Reading.{text_of, after, step, read_from, with_comment, without_comment}
use Rattle.mm_stated.specs.Stated.{Stated}
use Rattle.mm_scope.specs.Steps.{most_label, Answers, unless, symbol_checks, take_symbol, is_full, a_label, a_constant, a_variable, a_float, a_symbol, a_distinct, at_text, at_end, at_proof, unlabelled, at_constants, labelled, at_open, at_close, step_by}
use Rattle.mm_scope.specs.declared.fault.ReadFault.{ReadFault}
use Rattle.mm_scope.specs.declared.mode.Mode.{Mode}
use Rattle.mm_scope.specs.declared.mode.Mode.TheVariants as mode
use Rattle.mm_splice.proofs.Finding.{last_or, InOrder, below_all, open_context}
use Rattle.mm_splice.proofs.Gluing.{upto_all}
use Rattle.mm_splice.proofs.Parts.{AreEnded, ended, UpTo}
use Rattle.mm_splice.proofs.Replacing.{IsWhole}
use Rattle.mm_splice.proofs.Stepping.{Reading}
use Rattle.mm_splice.proofs.Turning.{reading, IfFine, fine_if, proof_room}

-- where the last proof ends
abbrev pub last_end : List Event → ℕ
last_end [] = 0
last_end (theorem l ss from to d ∷ past) = to
last_end (constant t n ∷ past) = last_end past
last_end (variable t n ∷ past) = last_end past
last_end (float l ss d ∷ past) = last_end past
last_end (essential l ss d ∷ past) = last_end past
last_end (asserted l ss d ∷ past) = last_end past
last_end (distinct ss ∷ past) = last_end past
last_end (opened q ∷ past) = last_end past
last_end (closed ∷ past) = last_end past

-- a comment, if there is one, stands between two places
abbrev pub Between : ℕ → ℕ → Option Span → Type 0
Between low high None = Unit {0}
Between low high (Some c) = (low ≤ c.start) × (c.start + 4 ≤ c.end) × (c.end ≤ high)

-- each description stands after the proofs before it, and before its own proof and a place
abbrev pub AreDescribed : ℕ → List Event → Type 0
AreDescribed high [] = Unit {0}
AreDescribed high (theorem l ss from to d ∷ past) = Between (last_end past) from d × AreDescribed from past × (from ≤ high)
AreDescribed high (constant t n ∷ past) = AreDescribed high past
AreDescribed high (variable t n ∷ past) = AreDescribed high past
AreDescribed high (float l ss d ∷ past) = Between (last_end past) high d × AreDescribed high past
AreDescribed high (essential l ss d ∷ past) = Between (last_end past) high d × AreDescribed high past
AreDescribed high (asserted l ss d ∷ past) = Between (last_end past) high d × AreDescribed high past
AreDescribed high (distinct ss ∷ past) = AreDescribed high past
AreDescribed high (opened q ∷ past) = AreDescribed high past
AreDescribed high (closed ∷ past) = AreDescribed high past

-- and so does that of the statement that is begun
abbrev Labelling : ℕ → List Event → Mode → ℕ → Option Span → Type 0
Labelling high past mode.Start from d = Unit {0}
Labelling high past mode.Constants from d = Unit {0}
Labelling high past mode.Variables from d = Unit {0}
Labelling high past mode.Distinct from d = Unit {0}
Labelling high past mode.Labelled from d = Between (last_end past) high d
Labelling high past mode.Float from d = Between (last_end past) high d
Labelling high past mode.Essential from d = Between (last_end past) high d
Labelling high past mode.Axiom from d = Between (last_end past) high d
Labelling high past mode.Theorem from d = Between (last_end past) high d
Labelling high past mode.Proof from d = Between (last_end past) from d × AreDescribed from past × (from ≤ high)

record TellsAt (high : ℕ) (past : List Event) (m : Mode) (from : ℕ) (d c : Option Span) : Type 0 where
  events : AreDescribed high past
  ends : last_end past ≤ high
  noted : Between (last_end past) high c
  label : Labelling high past m from d

abbrev Tells : ℕ → Reading → Type 0
Tells high s = TellsAt high s.context s.mode s.proof s.described s.comment

between_up : (at low high : ℕ) → low ≤ high → (c : Option Span) → Between at low c → Between at high c
between_up at low high up None b = tt
between_up at low high up (Some c) b = (b.0, b.1, omega (arith, b.2, up))

events_up : (low high : ℕ) → low ≤ high → (past : List Event) → AreDescribed low past → AreDescribed high past
events_up low high up [] e = tt
events_up low high up (theorem l ss from to d ∷ past) e = (e.0, e.1, omega (arith, e.2, up))
events_up low high up (constant t n ∷ past) e = events_up low high up past e
events_up low high up (variable t n ∷ past) e = events_up low high up past e
events_up low high up (float l ss d ∷ past) e = (between_up (last_end past) low high up d e.0, events_up low high up past e.1)
events_up low high up (essential l ss d ∷ past) e = (between_up (last_end past) low high up d e.0, events_up low high up past e.1)
events_up low high up (asserted l ss d ∷ past) e = (between_up (last_end past) low high up d e.0, events_up low high up past e.1)
events_up low high up (distinct ss ∷ past) e = events_up low high up past e
events_up low high up (opened q ∷ past) e = events_up low high up past e
events_up low high up (closed ∷ past) e = events_up low high up past e

label_up : (low high : ℕ) → low ≤ high → (past : List Event) (m : Mode) (from : ℕ) (d : Option Span) → Labelling low past m from d → Labelling high past m from d
label_up low high up past mode.Start from d l = tt
label_up low high up past mode.Constants from d l = tt
label_up low high up past mode.Variables from d l = tt
label_up low high up past mode.Distinct from d l = tt
label_up low high up past mode.Labelled from d l = between_up (last_end past) low high up d l
label_up low high up past mode.Float from d l = between_up (last_end past) low high up d l
label_up low high up past mode.Essential from d l = between_up (last_end past) low high up d l
label_up low high up past mode.Axiom from d l = between_up (last_end past) low high up d l
label_up low high up past mode.Theorem from d l = between_up (last_end past) low high up d l
label_up low high up past mode.Proof from d l = (l.0, l.1, omega (arith, l.2, up))

module _ (low high : ℕ) (up : low ≤ high) where
  -- after a token there is no comment
  abbrev Next : Reading → Type 0
  Next s = TellsAt high s.context s.mode s.proof s.described None

  next : (past : List Event) (m : Mode) (from : ℕ) (d : Option Span) → AreDescribed high past → last_end past ≤ high → Labelling high past m from d → TellsAt high past m from d None
  next past m from d events ends label = record { events = events; ends = ends; noted = tt; label = label }

  raised : (s : Reading) → Tells low s → AreDescribed high s.context
  raised s g = events_up low high up s.context g.events

  stays : (s : Reading) → Tells low s → Labelling high s.context s.mode s.proof s.described
  stays s g = label_up low high up s.context s.mode s.proof s.described g.label

  ends_up : (s : Reading) → Tells low s → last_end s.context ≤ high
  ends_up s g = omega (arith, g.ends, up)

  label_tells : (s : Reading) (a : Answers) (t : List ℕ) (p : ℕ) → Tells low s → IfFine (a_label s a t p) Next
  unfolding a_label
  label_tells s a t p g =
      fine_if (is_bad_label t) _ _ Next tt
      (fine_if (a.label || a.known) _ _ Next tt
      (fine_if (nat_lt most_label (length t)) _ _ Next tt
      (next s.context mode.Labelled s.proof s.comment (raised s g) (ends_up s g) (between_up (last_end s.context) low high up s.comment g.noted))))

  constant_tells : (s : Reading) (a : Answers) (t : List ℕ) (p : ℕ) → s.mode ≡ mode.Constants → Tells low s → IfFine (a_constant put s a t p) Next
  unfolding a_constant
  constant_tells s a t p e g =
      fine_if (is_bad_symbol t) _ _ Next tt
      (fine_if (a.known || a.label) _ _ Next tt
      (fine_if (is_full s) _ _ Next tt
      (next (constant t a.number ∷ s.context) s.mode s.proof s.described (raised s g) (ends_up s g)
      (subst (λ m. Labelling high (constant t a.number ∷ s.context) m s.proof s.described) (sym e) tt))))

  variable_tells : (s : Reading) (a : Answers) (t : List ℕ) (p : ℕ) → s.mode ≡ mode.Variables → Tells low s → IfFine (a_variable put s a t p) Next
  unfolding a_variable
  variable_tells s a t p e g =
      fine_if (is_bad_symbol t) _ _ Next tt
      (fine_if (a.active || a.constant || a.label) _ _ Next tt
      (fine_if (is_full s) _ _ Next tt
      (next (variable t a.number ∷ s.context) s.mode s.proof s.described (raised s g) (ends_up s g)
      (subst (λ m. Labelling high (variable t a.number ∷ s.context) m s.proof s.described) (sym e) tt))))

  same : (s : Reading) → Tells low s → Next s
  same s g = next s.context s.mode s.proof s.described (raised s g) (ends_up s g) (stays s g)

  take_tells : (s : Reading) (n : ℕ) → Tells low s → Next (take_symbol s n)
  take_tells s n g = next s.context s.mode s.proof s.described (raised s g) (ends_up s g) (stays s g)

  distinct_tells : (s : Reading) (a : Answers) (p : ℕ) → Tells low s → IfFine (a_distinct s a p) Next
  unfolding a_distinct
  distinct_tells s a p g =
      fine_if (not (a.constant || a.active)) _ _ Next tt
      (fine_if (a.constant || list_any (nat_eq a.number) s.buffer) _ _ Next tt
      (fine_if (is_full s) _ _ Next tt
      (take_tells s a.number g)))

  float_tells : (s : Reading) (a : Answers) (p : ℕ) → Tells low s → IfFine (a_float s a p) Next
  unfolding a_float
  float_tells s a p g =
      fine_if (not (a.constant || a.active)) _ _ Next tt
      (fine_if (nat_eq (length s.buffer) 0) _ _ Next
      (fine_if a.constant _ _ Next (take_tells s a.number g) tt)
      (fine_if (nat_lt 1 (length s.buffer) || a.constant) _ _ Next tt
      (fine_if a.floated _ _ Next tt
      (take_tells s a.number g))))

  fine_unless : (cs : List (Bool × ReadFault)) (x : Reading) → Next x → IfFine (unless cs (Ok x)) Next
  fine_unless [] x h = h
  fine_unless (c ∷ cs) x h = fine_if c.0 (Err c.1) (unless cs (Ok x)) Next tt (fine_unless cs x h)

  symbol_tells : (s : Reading) (a : Answers) (p : ℕ) → Tells low s → IfFine (a_symbol s a p) Next
  unfolding a_symbol
  symbol_tells s a p g = fine_unless (symbol_checks s a p) (take_symbol s a.number) (take_tells s a.number g)

  text_tells : (s : Reading) (m : Mode) (a : Answers) (t : List ℕ) (p : ℕ) → s.mode ≡ m → Tells low s → IfFine (at_text put s m a t p) Next
  unfolding at_text
  text_tells s mode.Start a t p e g = label_tells s a t p g
  text_tells s mode.Labelled a t p e g = tt
  text_tells s mode.Constants a t p e g = constant_tells s a t p e g
  text_tells s mode.Variables a t p e g = variable_tells s a t p e g
  text_tells s mode.Distinct a t p e g = distinct_tells s a p g
  text_tells s mode.Float a t p e g = float_tells s a p g
  text_tells s mode.Essential a t p e g = symbol_tells s a p g
  text_tells s mode.Axiom a t p e g = symbol_tells s a p g
  text_tells s mode.Theorem a t p e g = symbol_tells s a p g
  text_tells s mode.Proof a t p e g = same s g

  -- what the statement that is begun has
  labelled_as : (s : Reading) (m : Mode) → s.mode ≡ m → Tells low s → Labelling high s.context m s.proof s.described
  labelled_as s m e g = subst (λ n. Labelling high s.context n s.proof s.described) e (stays s g)

  is_done : (past : List Event) (from : ℕ) (d : Option Span) → AreDescribed high past → last_end past ≤ high → TellsAt high past mode.Start from d None
  is_done past from d events ends = next past mode.Start from d events ends tt

  end_tells : (s : Reading) (m : Mode) (p : ℕ) → s.mode ≡ m → low ≤ p → p ≤ high → Tells low s → IfFine (at_end put s m p) Next
  unfolding at_end
  end_tells s mode.Start p e above below g = tt
  end_tells s mode.Labelled p e above below g = tt
  end_tells s mode.Constants p e above below g = fine_if (nat_eq (length s.buffer) 0) _ _ Next tt (is_done s.context s.proof s.described (raised s g) (ends_up s g))
  end_tells s mode.Variables p e above below g = fine_if (nat_eq (length s.buffer) 0) _ _ Next tt (is_done s.context s.proof s.described (raised s g) (ends_up s g))
  end_tells s mode.Distinct p e above below g =
      fine_if (nat_lt (length s.buffer) 2) _ _ Next tt (is_done (distinct s.buffer ∷ s.context) s.proof s.described (raised s g) (ends_up s g))
  end_tells s mode.Float p e above below g =
      fine_if (nat_eq (length s.buffer) 2) _ _ Next
      (is_done (float s.label s.buffer s.described ∷ s.context) s.proof s.described (labelled_as s mode.Float e g, raised s g) (ends_up s g)) tt
  end_tells s mode.Essential p e above below g =
      fine_if (nat_eq (length s.buffer) 0) _ _ Next tt
      (is_done (essential s.label s.buffer s.described ∷ s.context) s.proof s.described (labelled_as s mode.Essential e g, raised s g) (ends_up s g))
  end_tells s mode.Axiom p e above below g =
      fine_if (nat_eq (length s.buffer) 0) _ _ Next tt
      (is_done (asserted s.label s.buffer s.described ∷ s.context) s.proof s.described (labelled_as s mode.Axiom e g, raised s g) (ends_up s g))
  end_tells s mode.Theorem p e above below g = tt
  end_tells s mode.Proof p e above below g =
      is_done (theorem s.label s.buffer s.proof p s.described ∷ s.context) s.proof s.described (labelled_as s mode.Proof e g) below

  proof_tells : (s : Reading) (m : Mode) (p : ℕ) → s.mode ≡ m → low ≤ p → p + 2 ≤ high → Tells low s → IfFine (at_proof s m p) Next
  unfolding at_proof
  proof_tells s mode.Theorem p e above below g =
      let label : Between (last_end s.context) low s.described = subst (λ n. Labelling low s.context n s.proof s.described) e g.label in
      let rises : low ≤ p + 2 = omega (arith, above) in
      fine_if (nat_eq (length s.buffer) 0) _ _ Next tt
      (next s.context mode.Proof (p + 2) s.described (raised s g) (ends_up s g)
      (between_up (last_end s.context) low (p + 2) rises s.described label, events_up low (p + 2) rises s.context g.events, below))
  proof_tells s _ p e above below g = tt

  unlabelled_tells : (s : Reading) (m n : Mode) (p : ℕ) → Labelling high s.context n s.proof s.described → Tells low s → IfFine (unlabelled s m n p) Next
  unfolding unlabelled
  unlabelled_tells s mode.Start n p l g = next s.context n s.proof s.described (raised s g) (ends_up s g) l
  unlabelled_tells s mode.Labelled n p l g = tt
  unlabelled_tells s _ n p l g = tt

  labelled_tells : (s : Reading) (m n : Mode) (p : ℕ) → s.mode ≡ m → (Between (last_end s.context) high s.described → Labelling high s.context n s.proof s.described) → Tells low s
      → IfFine (labelled s m n p) Next
  unfolding labelled
  labelled_tells s mode.Labelled n p e l g = next s.context n s.proof s.described (raised s g) (ends_up s g) (l (labelled_as s mode.Labelled e g))
  labelled_tells s mode.Start n p e l g = tt
  labelled_tells s _ n p e l g = tt

  constants_tells : (s : Reading) (m : Mode) (deep : Bool) (p : ℕ) → Tells low s → IfFine (at_constants s m deep p) Next
  unfolding at_constants
  constants_tells s mode.Start deep p g = fine_if deep _ _ Next tt (next s.context mode.Constants s.proof s.described (raised s g) (ends_up s g) tt)
  constants_tells s mode.Labelled deep p g = fine_if deep _ _ Next tt tt
  constants_tells s _ deep p g = tt

  open_tells : (s : Reading) (m : Mode) (p : ℕ) → s.mode ≡ m → Tells low s → IfFine (at_open put s m p) Next
  unfolding at_open
  open_tells s mode.Start p e g =
      next (opened p ∷ s.context) s.mode s.proof s.described (raised s g) (ends_up s g) (subst (λ m. Labelling high (opened p ∷ s.context) m s.proof s.described) (sym e) tt)
  open_tells s mode.Labelled p e g = tt
  open_tells s _ p e g = tt

  close_tells : (s : Reading) (m : Mode) (deep : Bool) (p : ℕ) → s.mode ≡ m → Tells low s → IfFine (at_close put s m deep p) Next
  unfolding at_close
  close_tells s mode.Start deep p e g =
      fine_if deep _ _ Next
      (next (closed ∷ s.context) s.mode s.proof s.described (raised s g) (ends_up s g) (subst (λ m. Labelling high (closed ∷ s.context) m s.proof s.described) (sym e) tt)) tt
  close_tells s mode.Labelled deep p e g = tt
  close_tells s _ deep p e g = tt

  word_tells : (s : Reading) (a : Answers) (w : Word) (t : List ℕ) (p : ℕ) → low ≤ p → p ≤ high → (w ≡ word.Proof → p + 2 ≤ high) → Tells low s → IfFine (step_by put s a w t p) Next
  unfolding step_by
  word_tells s a word.Unknown t p above below two g = tt
  word_tells s a word.Inclusion t p above below two g = tt
  word_tells s a word.Text t p above below two g = text_tells s s.mode a t p refl g
  word_tells s a word.End t p above below two g = end_tells s s.mode p refl above below g
  word_tells s a word.Proof t p above below two g = proof_tells s s.mode p refl above (two refl) g
  word_tells s a word.Constants t p above below two g = constants_tells s s.mode a.deep p g
  word_tells s a word.Variables t p above below two g = unlabelled_tells s s.mode mode.Variables p tt g
  word_tells s a word.Distinct t p above below two g = unlabelled_tells s s.mode mode.Distinct p tt g
  word_tells s a word.Open t p above below two g = open_tells s s.mode p refl g
  word_tells s a word.Close t p above below two g = close_tells s s.mode a.deep p refl g
  word_tells s a word.Float t p above below two g = labelled_tells s s.mode mode.Float p refl (λ b. b) g
  word_tells s a word.Essential t p above below two g = labelled_tells s s.mode mode.Essential p refl (λ b. b) g
  word_tells s a word.Axiom t p above below two g = labelled_tells s s.mode mode.Axiom p refl (λ b. b) g
  word_tells s a word.Theorem t p above below two g = labelled_tells s s.mode mode.Theorem p refl (λ b. b) g

  all_up : (s : Reading) → Tells low s → Tells high s
  all_up s g = record { events = raised s g; ends = ends_up s g; noted = between_up (last_end s.context) low high up s.comment g.noted; label = stays s g }

  commented : (s : Reading) (c : Span) → low ≤ c.start → c.start + 4 ≤ c.end → c.end ≤ high → Tells low s → Tells high (with_comment s c)
  commented s c above size below g =
      record { events = raised s g; ends = ends_up s g; noted = (omega (arith, g.ends, above), size, below); label = stays s g }

-- so it stays while pieces are read
reading_tells : (bytes : List ℕ) (s : Reading) (p : ℕ) (ps : List Piece) (q : ℕ) → AreEnded ps → UpTo bytes p ps q → Tells p s → IfFine (reading bytes s ps) (Tells q)
unfolding read_from
reading_tells bytes s p [] q e u g = all_up p q u.0 s g
reading_tells bytes s p (Comment c ∷ ps) q e u g =
    reading_tells bytes (with_comment s c) c.end ps q e u.3 (commented p c.end (omega (arith, u.0, u.2.room)) s c u.0 u.2.room (omega arith) g)
reading_tells bytes s p (Token k ∷ ps) q e u g =
    by (step put look_back bytes s k) (word_tells p k.end (omega (arith, u.0, u.2.run.some)) s (look_back s.context (text_of bytes k)) (word_of (text_of bytes k)) (text_of bytes k) k.start u.0 (omega (arith, u.2.run.some)) (proof_room bytes k u.2.run.some) g)
    (λ t h. reading_tells bytes (without_comment t) k.end ps q e u.3 h)
  where
    by : (r : Result Reading ReadFault) → IfFine r (λ t. Tells k.end (without_comment t)) → ((t : Reading) → Tells k.end (without_comment t) → IfFine (reading bytes (without_comment t) ps) (Tells q))
        → IfFine (after r (λ t. reading bytes (without_comment t) ps)) (Tells q)
    by (Ok t) h later = later t h
    by (Err x) h later = tt
reading_tells bytes s p (Open o ∷ ps) q e u g = absurd e

pub reading_describes : (bytes : List ℕ) (s : Reading) (ps : List Piece) (q : ℕ) → AreEnded ps → UpTo bytes 0 ps q → s.context ≡ [] → s.mode ≡ mode.Start → s.comment ≡ None
    → IfFine (reading bytes s ps) (λ t. AreDescribed q t.context)
reading_describes bytes s ps q e u none start quiet =
    by (reading bytes s ps) (reading_tells bytes s 0 ps q e u (record {
      events = subst (AreDescribed 0) (sym none) tt;
      ends = subst (λ past. last_end past ≤ 0) (sym none) (omega arith);
      noted = subst (Between (last_end s.context) 0) (sym quiet) tt;
      label = subst (λ m. Labelling 0 s.context m s.proof s.described) (sym start) tt;
    }))
  where
    by : (r : Result Reading ReadFault) → IfFine r (Tells q) → IfFine r (λ t. AreDescribed q t.context)
    by (Ok t) h = h.events
    by (Err x) h = tt

-- a description stands before a proof or after it
abbrev pub StandsClear : Stated → Option Span → Type 0
StandsClear x None = Unit {0}
StandsClear x (Some c) = (c.start + 4 ≤ c.end) × ((c.end ≤ x.from) ⊎ (x.to ≤ c.start))

-- each description stands before a place
described_one : (high : ℕ) (ss : List Stated) (x : Stated) (j : ℕ) → Between 0 high x.described → Between 0 high (statement_at ss j).described → Between 0 high (statement_at (ss ++ x ∷ []) j).described
described_one high ss x j here there = elim (last_or ss x j) [
  | inl last ↦ subst (λ y. Between 0 high y.described) (sym last.1) here
  | inr same ↦ subst (λ y. Between 0 high y.described) (sym same) there
]

lowered : (low high : ℕ) (c : Option Span) → Between low high c → Between 0 high c
lowered low high None b = tt
lowered low high (Some c) b = (omega arith, b.1, b.2)

pub described_all : (high : ℕ) (past : List Event) (j : ℕ) → AreDescribed high past → Between 0 high (statement_at (statements past) j).described
unfolding statements
described_all high [] j e = tt
described_all high (theorem l ss from to d ∷ past) j e =
    described_one high (statements past) _ j (between_up 0 from high e.2 d (lowered (last_end past) from d e.0)) (between_up 0 from high e.2 (statement_at (statements past) j).described (described_all from past j e.1))
described_all high (constant t n ∷ past) j e = described_all high past j e
described_all high (variable t n ∷ past) j e = described_all high past j e
described_all high (float l ss d ∷ past) j e = described_one high (statements past) _ j (lowered (last_end past) high d e.0) (described_all high past j e.1)
described_all high (essential l ss d ∷ past) j e = described_one high (statements past) _ j (lowered (last_end past) high d e.0) (described_all high past j e.1)
described_all high (asserted l ss d ∷ past) j e = described_one high (statements past) _ j (lowered (last_end past) high d e.0) (described_all high past j e.1)
described_all high (distinct ss ∷ past) j e = described_all high past j e
described_all high (opened q ∷ past) j e = described_all high past j e
described_all high (closed ∷ past) j e = described_all high past j e

-- no proof ends after the last one
end_one : (high : ℕ) (ss : List Stated) (x : Stated) (i : ℕ) → x.to ≤ high → (statement_at ss i).to ≤ high → (statement_at (ss ++ x ∷ []) i).to ≤ high
end_one high ss x i here there = elim (last_or ss x i) [ inl last ↦ subst (λ y. y.to ≤ high) (sym last.1) here | inr same ↦ subst (λ y. y.to ≤ high) (sym same) there ]

ends_all : (high : ℕ) (past : List Event) (i : ℕ) → InOrder high past → (statement_at (statements past) i).to ≤ last_end past
unfolding statements
ends_all high [] i o = omega arith
ends_all high (theorem l ss from to d ∷ past) i o = end_one to (statements past) _ i (omega arith) (omega (arith, o.0, (below_all from past i o.2).1))
ends_all high (constant t n ∷ past) i o = ends_all high past i o
ends_all high (variable t n ∷ past) i o = ends_all high past i o
ends_all high (float l ss d ∷ past) i o = end_one (last_end past) (statements past) _ i (omega arith) (ends_all high past i o)
ends_all high (essential l ss d ∷ past) i o = end_one (last_end past) (statements past) _ i (omega arith) (ends_all high past i o)
ends_all high (asserted l ss d ∷ past) i o = end_one (last_end past) (statements past) _ i (omega arith) (ends_all high past i o)
ends_all high (distinct ss ∷ past) i o = ends_all high past i o
ends_all high (opened q ∷ past) i o = ends_all high past i o
ends_all high (closed ∷ past) i o = ends_all high past i o

before_clear : (x : Stated) (c : Option Span) → Between 0 x.from c → StandsClear x c
before_clear x None b = tt
before_clear x (Some c) b = (b.1, inl b.2)

after_clear : (x : Stated) (low high : ℕ) (c : Option Span) → x.to ≤ low → Between low high c → StandsClear x c
after_clear x low high None h b = tt
after_clear x low high (Some c) h b = (b.1, inr (omega (arith, h, b.0)))

-- one statement more
clear_one : (ss : List Stated) (x : Stated) (i j : ℕ) → StandsClear x x.described → StandsClear x (statement_at ss j).described → StandsClear (statement_at ss i) x.described
    → StandsClear (statement_at ss i) (statement_at ss j).described → StandsClear (statement_at (ss ++ x ∷ []) i) (statement_at (ss ++ x ∷ []) j).described
clear_one ss x i j own here there both = elim (last_or ss x i) [
  | inl last_i ↦ subst (λ y. StandsClear y (statement_at (ss ++ x ∷ []) j).described) (sym last_i.1) (elim (last_or ss x j) [
    | inl last_j ↦ subst (λ z. StandsClear x z.described) (sym last_j.1) own
    | inr same_j ↦ subst (λ z. StandsClear x z.described) (sym same_j) here
  ])
  | inr same_i ↦ subst (λ y. StandsClear y (statement_at (ss ++ x ∷ []) j).described) (sym same_i) (elim (last_or ss x j) [
    | inl last_j ↦ subst (λ z. StandsClear (statement_at ss i) z.described) (sym last_j.1) there
    | inr same_j ↦ subst (λ z. StandsClear (statement_at ss i) z.described) (sym same_j) both
  ])
]

-- a statement with no proof is in no one's way
none_clear : (high : ℕ) (x : Stated) (c : Option Span) → x.to ≡ 0 → Between 0 high c → StandsClear x c
none_clear high x None e b = tt
none_clear high x (Some c) e b = (b.1, inr (omega (arith, e)))

clear_theorem : (ss : List Stated) (x : Stated) (i j : ℕ) → Between 0 x.from x.described → Between 0 x.from (statement_at ss j).described → StandsClear (statement_at ss i) x.described
    → StandsClear (statement_at ss i) (statement_at ss j).described → StandsClear (statement_at (ss ++ x ∷ []) i) (statement_at (ss ++ x ∷ []) j).described
clear_theorem ss x i j own here there both = clear_one ss x i j (before_clear x x.described own) (before_clear x (statement_at ss j).described here) there both

clear_other : (high : ℕ) (ss : List Stated) (x : Stated) (i j : ℕ) → x.to ≡ 0 → Between 0 high x.described → Between 0 high (statement_at ss j).described → StandsClear (statement_at ss i) x.described
    → StandsClear (statement_at ss i) (statement_at ss j).described → StandsClear (statement_at (ss ++ x ∷ []) i) (statement_at (ss ++ x ∷ []) j).described
clear_other high ss x i j e own here there both = clear_one ss x i j (none_clear high x x.described e own) (none_clear high x (statement_at ss j).described e here) there both

pub stands_clear : (high : ℕ) (past : List Event) (i j : ℕ) → InOrder high past → AreDescribed high past → StandsClear (statement_at (statements past) i) (statement_at (statements past) j).described
unfolding statements
stands_clear high [] i j o e = tt
stands_clear high (theorem l ss from to d ∷ past) i j o e =
    clear_theorem (statements past) _ i j (lowered (last_end past) from d e.0) (described_all from past j e.1)
    (after_clear (statement_at (statements past) i) (last_end past) from d (ends_all from past i o.2) e.0) (stands_clear from past i j o.2 e.1)
stands_clear high (constant t n ∷ past) i j o e = stands_clear high past i j o e
stands_clear high (variable t n ∷ past) i j o e = stands_clear high past i j o e
stands_clear high (float l ss d ∷ past) i j o e =
    clear_other high (statements past) _ i j refl (lowered (last_end past) high d e.0) (described_all high past j e.1)
    (after_clear (statement_at (statements past) i) (last_end past) high d (ends_all high past i o) e.0) (stands_clear high past i j o e.1)
stands_clear high (essential l ss d ∷ past) i j o e =
    clear_other high (statements past) _ i j refl (lowered (last_end past) high d e.0) (described_all high past j e.1)
    (after_clear (statement_at (statements past) i) (last_end past) high d (ends_all high past i o) e.0) (stands_clear high past i j o e.1)
stands_clear high (asserted l ss d ∷ past) i j o e =
    clear_other high (statements past) _ i j refl (lowered (last_end past) high d e.0) (described_all high past j e.1)
    (after_clear (statement_at (statements past) i) (last_end past) high d (ends_all high past i o) e.0) (stands_clear high past i j o e.1)
stands_clear high (distinct ss ∷ past) i j o e = stands_clear high past i j o e
stands_clear high (opened q ∷ past) i j o e = stands_clear high past i j o e
stands_clear high (closed ∷ past) i j o e = stands_clear high past i j o e

-- so it is in a database that is read
pub whole_described : (bytes : List ℕ) (past : List Event) → IsWhole bytes past → AreDescribed (length bytes) past
whole_described bytes past w =
    let context : w.state.context ≡ past = open_context w.state past (open_blocks w.state.context) w.closes in
    let described : IfFine (reading bytes nothing_read (pieces_of bytes)) (λ t. AreDescribed (length bytes) t.context)
    = reading_describes bytes nothing_read (pieces_of bytes) (length bytes) (ended (pieces_of bytes) w.ended) (upto_all bytes) refl refl refl in
    let there : AreDescribed (length bytes) w.state.context = subst (λ r. IfFine r (λ t. AreDescribed (length bytes) t.context)) w.read described in
    subst (AreDescribed (length bytes)) context there
