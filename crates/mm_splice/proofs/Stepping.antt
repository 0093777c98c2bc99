-- A step at a moved place does the same, with each place moved.
use Rattle.std.proofs.Common.{◌≡◌, ℕ, ◌+◌, Bool, true, false, cond, List, map, Result, Ok, Err, refl}
use Rattle.std.specs.Option.{option_map}
use Rattle.mm_tokens.specs.declared.word.Word.{Word}
use Rattle.mm_tokens.specs.declared.word.Word.TheVariants as word
use Rattle.mm_scope.specs.Events.{Event, put}
use Rattle.mm_scope.specs.Steps.{Answers, State, a_label, a_constant, a_variable, a_float, a_symbol, a_distinct, at_text, at_end, at_proof, unlabelled, at_constants, labelled, at_open, at_close, step_by}
use Rattle.mm_scope.specs.declared.mode.Mode.{Mode}
use Rattle.mm_scope.specs.declared.mode.Mode.TheVariants as mode
use Rattle.mm_scope.specs.declared.fault.ReadFault.{ReadFault}
use Rattle.mm_scope.specs.declared.fault.ReadFault.TheVariants as fault
use Rattle.mm_splice.specs.Moved.{move_span, move_event}

abbrev pub Reading : Type 0
Reading = State (List Event)

abbrev pub move_state : (ℕ → ℕ) → Reading → Reading
move_state f s = record {
  context = map (move_event f) s.context;
  mode = s.mode;
  begun = f s.begun;
  label = s.label;
  described = option_map (move_span f) s.described;
  buffer = s.buffer;
  proof = f s.proof;
  comment = option_map (move_span f) s.comment;
}

abbrev pub move_fault : (ℕ → ℕ) → ReadFault → ReadFault
move_fault f (fault.BadByte p) = fault.BadByte (f p)
move_fault f (fault.CommentOpen p) = fault.CommentOpen (f p)
move_fault f (fault.UnknownKeyword p) = fault.UnknownKeyword (f p)
move_fault f (fault.FileInclusion p) = fault.FileInclusion (f p)
move_fault f (fault.BadLabel p) = fault.BadLabel (f p)
move_fault f (fault.BadSymbol p) = fault.BadSymbol (f p)
move_fault f (fault.Redeclared p) = fault.Redeclared (f p)
move_fault f (fault.NotActive p) = fault.NotActive (f p)
move_fault f (fault.ConstantInBlock p) = fault.ConstantInBlock (f p)
move_fault f (fault.LabelUsed p) = fault.LabelUsed (f p)
move_fault f (fault.LabelMissing p) = fault.LabelMissing (f p)
move_fault f (fault.LabelNotWanted p) = fault.LabelNotWanted (f p)
move_fault f (fault.WrongForm p) = fault.WrongForm (f p)
move_fault f (fault.FloatRepeated p) = fault.FloatRepeated (f p)
move_fault f (fault.NoFloat p) = fault.NoFloat (f p)
move_fault f (fault.DistinctForm p) = fault.DistinctForm (f p)
move_fault f (fault.BlockNotOpen p) = fault.BlockNotOpen (f p)
move_fault f (fault.BlockOpen p) = fault.BlockOpen (f p)
move_fault f (fault.NotClosed p) = fault.NotClosed (f p)
move_fault f (fault.TooLong p) = fault.TooLong (f p)
move_fault f fault.Memory = fault.Memory

abbrev pub move_result : (ℕ → ℕ) → Result Reading ReadFault → Result Reading ReadFault
move_result f (Ok s) = Ok (move_state f s)
move_result f (Err e) = Err (move_fault f e)

module _ (f : ℕ → ℕ) where
  either : (b : Bool) (x y : Result Reading ReadFault) → move_result f (cond b x y) ≡ cond b (move_result f x) (move_result f y)
  either true x y = refl
  either false x y = refl

  label_moved : (s : Reading) (a : Answers) (t : List ℕ) (p : ℕ) → move_result f (a_label s a t p) ≡ a_label (move_state f s) a t (f p)
  unfolding a_label
  label_moved s a t p = simp either refl

  float_moved : (s : Reading) (a : Answers) (p : ℕ) → move_result f (a_float s a p) ≡ a_float (move_state f s) a (f p)
  unfolding a_float
  float_moved s a p = simp either refl

  symbol_moved : (s : Reading) (a : Answers) (p : ℕ) → move_result f (a_symbol s a p) ≡ a_symbol (move_state f s) a (f p)
  unfolding a_symbol
  symbol_moved s a p = simp either refl

  distinct_moved : (s : Reading) (a : Answers) (p : ℕ) → move_result f (a_distinct s a p) ≡ a_distinct (move_state f s) a (f p)
  unfolding a_distinct
  distinct_moved s a p = simp either refl

  proof_moved : (s : Reading) (m : Mode) (p : ℕ) → f (p + 2) ≡ f p + 2 → move_result f (at_proof s m p) ≡ at_proof (move_state f s) m (f p)
  unfolding at_proof
  proof_moved s mode.Theorem p two = simp (either, two) refl
  proof_moved s _ p two = refl

  unlabelled_moved : (s : Reading) (m n : Mode) (p : ℕ) → move_result f (unlabelled s m n p) ≡ unlabelled (move_state f s) m n (f p)
  unfolding unlabelled
  unlabelled_moved s mode.Start n p = refl
  unlabelled_moved s mode.Labelled n p = refl
  unlabelled_moved s _ n p = refl

  constants_moved : (s : Reading) (m : Mode) (b : Bool) (p : ℕ) → move_result f (at_constants s m b p) ≡ at_constants (move_state f s) m b (f p)
  unfolding at_constants
  constants_moved s mode.Start b p = simp either refl
  constants_moved s mode.Labelled b p = simp either refl
  constants_moved s _ b p = refl

  labelled_moved : (s : Reading) (m n : Mode) (p : ℕ) → move_result f (labelled s m n p) ≡ labelled (move_state f s) m n (f p)
  unfolding labelled
  labelled_moved s mode.Labelled n p = refl
  labelled_moved s mode.Start n p = refl
  labelled_moved s _ n p = refl

  constant_moved : (s : Reading) (a : Answers) (t : List ℕ) (p : ℕ) → move_result f (a_constant put s a t p) ≡ a_constant put (move_state f s) a t (f p)
  unfolding a_constant
  constant_moved s a t p = simp either refl

  variable_moved : (s : Reading) (a : Answers) (t : List ℕ) (p : ℕ) → move_result f (a_variable put s a t p) ≡ a_variable put (move_state f s) a t (f p)
  unfolding a_variable
  variable_moved s a t p = simp either refl

  text_moved : (s : Reading) (m : Mode) (a : Answers) (t : List ℕ) (p : ℕ) → move_result f (at_text put s m a t p) ≡ at_text put (move_state f s) m a t (f p)
  unfolding at_text
  text_moved s mode.Start a t p = label_moved s a t p
  text_moved s mode.Labelled a t p = refl
  text_moved s mode.Constants a t p = constant_moved s a t p
  text_moved s mode.Variables a t p = variable_moved s a t p
  text_moved s mode.Distinct a t p = distinct_moved s a p
  text_moved s mode.Float a t p = float_moved s a p
  text_moved s mode.Essential a t p = symbol_moved s a p
  text_moved s mode.Axiom a t p = symbol_moved s a p
  text_moved s mode.Theorem a t p = symbol_moved s a p
  text_moved s mode.Proof a t p = refl

  end_moved : (s : Reading) (m : Mode) (p : ℕ) → move_result f (at_end put s m p) ≡ at_end put (move_state f s) m (f p)
  unfolding at_end
  end_moved s mode.Start p = refl
  end_moved s mode.Labelled p = refl
  end_moved s mode.Constants p = simp either refl
  end_moved s mode.Variables p = simp either refl
  end_moved s mode.Distinct p = simp either refl
  end_moved s mode.Float p = simp either refl
  end_moved s mode.Essential p = simp either refl
  end_moved s mode.Axiom p = simp either refl
  end_moved s mode.Theorem p = refl
  end_moved s mode.Proof p = refl

  open_moved : (s : Reading) (m : Mode) (p : ℕ) → move_result f (at_open put s m p) ≡ at_open put (move_state f s) m (f p)
  unfolding at_open
  open_moved s mode.Start p = refl
  open_moved s mode.Labelled p = refl
  open_moved s _ p = refl

  close_moved : (s : Reading) (m : Mode) (b : Bool) (p : ℕ) → move_result f (at_close put s m b p) ≡ at_close put (move_state f s) m b (f p)
  unfolding at_close
  close_moved s mode.Start b p = simp either refl
  close_moved s mode.Labelled b p = refl
  close_moved s _ b p = refl

  pub step_moved : (s : Reading) (a : Answers) (w : Word) (t : List ℕ) (p : ℕ) → (w ≡ word.Proof → f (p + 2) ≡ f p + 2)
      → move_result f (step_by put s a w t p) ≡ step_by put (move_state f s) a w t (f p)
  unfolding step_by
  step_moved s a word.Unknown t p two = refl
  step_moved s a word.Inclusion t p two = refl
  step_moved s a word.Text t p two = text_moved s s.mode a t p
  step_moved s a word.End t p two = end_moved s s.mode p
  step_moved s a word.Proof t p two = proof_moved s s.mode p (two refl)
  step_moved s a word.Constants t p two = constants_moved s s.mode a.deep p
  step_moved s a word.Variables t p two = unlabelled_moved s s.mode mode.Variables p
  step_moved s a word.Distinct t p two = unlabelled_moved s s.mode mode.Distinct p
  step_moved s a word.Open t p two = open_moved s s.mode p
  step_moved s a word.Close t p two = close_moved s s.mode a.deep p
  step_moved s a word.Float t p two = labelled_moved s s.mode mode.Float p
  step_moved s a word.Essential t p two = labelled_moved s s.mode mode.Essential p
  step_moved s a word.Axiom t p two = labelled_moved s s.mode mode.Axiom p
  step_moved s a word.Theorem t p two = labelled_moved s s.mode mode.Theorem p
