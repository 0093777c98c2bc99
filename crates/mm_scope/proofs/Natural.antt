-- A step does the same over each kind of context.
use Rattle.std.proofs.Common.{◌≡◌, ℕ, Bool, true, false, cond, List, Result, Ok, Err, refl}
use Rattle.mm_scope.specs.Events.{Event}
use Rattle.mm_scope.specs.Steps.{Answers, State, a_label, a_constant, a_variable, a_float, a_symbol, a_distinct, at_text, at_end, at_proof, unlabelled, at_constants, labelled, at_open, at_close, step_by}
use Rattle.mm_tokens.specs.declared.word.Word.{Word}
use Rattle.mm_tokens.specs.declared.word.Word.TheVariants as word
use Rattle.mm_scope.specs.declared.mode.Mode.{Mode}
use Rattle.mm_scope.specs.declared.mode.Mode.TheVariants as mode
use Rattle.mm_scope.specs.declared.fault.ReadFault.{ReadFault}

abbrev pub mapped : {C D : Type 0} → (C → D) → State C → State D
mapped f s = record { context = f s.context; mode = s.mode; begun = s.begun; label = s.label; described = s.described; buffer = s.buffer; proof = s.proof; comment = s.comment }

abbrev pub map_ok : {A B : Type 0} → (A → B) → Result A ReadFault → Result B ReadFault
map_ok g (Ok x) = Ok (g x)
map_ok g (Err e) = Err e

map_ok_cond : {A B : Type 0} (g : A → B) (b : Bool) (x y : Result A ReadFault) → map_ok g (cond b x y) ≡ cond b (map_ok g x) (map_ok g y)
map_ok_cond g true x y = refl
map_ok_cond g false x y = refl

module _ {C D : Type 0} (f : C → D) where
  pub a_label_natural : (s : State C) (a : Answers) (t : List ℕ) (p : ℕ) → map_ok (mapped f) (a_label s a t p) ≡ a_label (mapped f s) a t p
  unfolding a_label
  a_label_natural s a t p = simp map_ok_cond refl

  pub a_float_natural : (s : State C) (a : Answers) (p : ℕ) → map_ok (mapped f) (a_float s a p) ≡ a_float (mapped f s) a p
  unfolding a_float
  a_float_natural s a p = simp (map_ok_cond (mapped f)) refl

  pub a_symbol_natural : (s : State C) (a : Answers) (p : ℕ) → map_ok (mapped f) (a_symbol s a p) ≡ a_symbol (mapped f s) a p
  unfolding a_symbol
  a_symbol_natural s a p = simp (map_ok_cond (mapped f)) refl

  pub a_distinct_natural : (s : State C) (a : Answers) (p : ℕ) → map_ok (mapped f) (a_distinct s a p) ≡ a_distinct (mapped f s) a p
  unfolding a_distinct
  a_distinct_natural s a p = simp (map_ok_cond (mapped f)) refl

  pub at_proof_natural : (s : State C) (m : Mode) (p : ℕ) → map_ok (mapped f) (at_proof s m p) ≡ at_proof (mapped f s) m p
  unfolding at_proof
  at_proof_natural s mode.Theorem p = simp (map_ok_cond (mapped f)) refl
  at_proof_natural s _ p = refl

  pub unlabelled_natural : (s : State C) (m n : Mode) (p : ℕ) → map_ok (mapped f) (unlabelled s m n p) ≡ unlabelled (mapped f s) m n p
  unfolding unlabelled
  unlabelled_natural s mode.Start n p = refl
  unlabelled_natural s mode.Labelled n p = refl
  unlabelled_natural s _ n p = refl

  pub at_constants_natural : (s : State C) (m : Mode) (b : Bool) (p : ℕ) → map_ok (mapped f) (at_constants s m b p) ≡ at_constants (mapped f s) m b p
  unfolding at_constants
  at_constants_natural s mode.Start b p = simp (map_ok_cond (mapped f)) refl
  at_constants_natural s mode.Labelled b p = simp (map_ok_cond (mapped f)) refl
  at_constants_natural s _ b p = refl

  pub labelled_natural : (s : State C) (m n : Mode) (p : ℕ) → map_ok (mapped f) (labelled s m n p) ≡ labelled (mapped f s) m n p
  unfolding labelled
  labelled_natural s mode.Start n p = refl
  labelled_natural s mode.Labelled n p = refl
  labelled_natural s _ n p = refl

  module _ (add : C → Event → C) (put : D → Event → D) (same : (c : C) (e : Event) → f (add c e) ≡ put (f c) e) where
    pub a_constant_natural : (s : State C) (a : Answers) (t : List ℕ) (p : ℕ) → map_ok (mapped f) (a_constant add s a t p) ≡ a_constant put (mapped f s) a t p
    unfolding a_constant
    a_constant_natural s a t p = simp (map_ok_cond (mapped f), same) refl

    pub a_variable_natural : (s : State C) (a : Answers) (t : List ℕ) (p : ℕ) → map_ok (mapped f) (a_variable add s a t p) ≡ a_variable put (mapped f s) a t p
    unfolding a_variable
    a_variable_natural s a t p = simp (map_ok_cond (mapped f), same) refl

    pub at_text_natural : (s : State C) (m : Mode) (a : Answers) (t : List ℕ) (p : ℕ) → map_ok (mapped f) (at_text add s m a t p) ≡ at_text put (mapped f s) m a t p
    unfolding at_text
    at_text_natural s mode.Start a t p = a_label_natural s a t p
    at_text_natural s mode.Labelled a t p = refl
    at_text_natural s mode.Constants a t p = a_constant_natural s a t p
    at_text_natural s mode.Variables a t p = a_variable_natural s a t p
    at_text_natural s mode.Distinct a t p = a_distinct_natural s a p
    at_text_natural s mode.Float a t p = a_float_natural s a p
    at_text_natural s mode.Essential a t p = a_symbol_natural s a p
    at_text_natural s mode.Axiom a t p = a_symbol_natural s a p
    at_text_natural s mode.Theorem a t p = a_symbol_natural s a p
    at_text_natural s mode.Proof a t p = refl

    pub at_end_natural : (s : State C) (m : Mode) (p : ℕ) → map_ok (mapped f) (at_end add s m p) ≡ at_end put (mapped f s) m p
    unfolding at_end
    at_end_natural s mode.Start p = refl
    at_end_natural s mode.Labelled p = refl
    at_end_natural s mode.Constants p = simp (map_ok_cond (mapped f)) refl
    at_end_natural s mode.Variables p = simp (map_ok_cond (mapped f)) refl
    at_end_natural s mode.Distinct p = simp (map_ok_cond (mapped f), same) refl
    at_end_natural s mode.Float p = simp (map_ok_cond (mapped f), same) refl
    at_end_natural s mode.Essential p = simp (map_ok_cond (mapped f), same) refl
    at_end_natural s mode.Axiom p = simp (map_ok_cond (mapped f), same) refl
    at_end_natural s mode.Theorem p = refl
    at_end_natural s mode.Proof p = simp same refl

    pub at_open_natural : (s : State C) (m : Mode) (p : ℕ) → map_ok (mapped f) (at_open add s m p) ≡ at_open put (mapped f s) m p
    unfolding at_open
    at_open_natural s mode.Start p = simp same refl
    at_open_natural s mode.Labelled p = refl
    at_open_natural s _ p = refl

    pub at_close_natural : (s : State C) (m : Mode) (b : Bool) (p : ℕ) → map_ok (mapped f) (at_close add s m b p) ≡ at_close put (mapped f s) m b p
    unfolding at_close
    at_close_natural s mode.Start b p = simp (map_ok_cond (mapped f), same) refl
    at_close_natural s mode.Labelled b p = refl
    at_close_natural s _ b p = refl

    pub step_natural : (s : State C) (a : Answers) (w : Word) (t : List ℕ) (p : ℕ) → map_ok (mapped f) (step_by add s a w t p) ≡ step_by put (mapped f s) a w t p
    unfolding step_by
    step_natural s a word.Unknown t p = refl
    step_natural s a word.Inclusion t p = refl
    step_natural s a word.Text t p = at_text_natural s s.mode a t p
    step_natural s a word.End t p = at_end_natural s s.mode p
    step_natural s a word.Proof t p = at_proof_natural s s.mode p
    step_natural s a word.Constants t p = at_constants_natural s s.mode a.deep p
    step_natural s a word.Variables t p = unlabelled_natural s s.mode mode.Variables p
    step_natural s a word.Distinct t p = unlabelled_natural s s.mode mode.Distinct p
    step_natural s a word.Open t p = at_open_natural s s.mode p
    step_natural s a word.Close t p = at_close_natural s s.mode a.deep p
    step_natural s a word.Float t p = labelled_natural s s.mode mode.Float p
    step_natural s a word.Essential t p = labelled_natural s s.mode mode.Essential p
    step_natural s a word.Axiom t p = labelled_natural s s.mode mode.Axiom p
    step_natural s a word.Theorem t p = labelled_natural s s.mode mode.Theorem p
