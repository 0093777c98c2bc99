-- The faults that may show at a token, each with its test, lowest number first: a step's fault is the first whose test holds.
use Rattle.std.proofs.Common.{◌≡◌, ℕ, zero, suc, Bool, true, false, cond, not, ◌&&◌, ◌||◌, List, [], ◌∷◌, length, map, nat_eq, nat_lt, Result, Ok, Err, refl, sym, subst, arith}
use Rattle.std.proofs.lemmas.Bool.{true≢false, false≢true}
use Rattle.std.specs.List.{list_any}
use Rattle.mm_tokens.specs.Words.{is_bad_label, is_bad_symbol}
use Rattle.mm_tokens.specs.declared.word.Word.{Word}
use Rattle.mm_tokens.specs.declared.word.Word.TheVariants as word
use Rattle.mm_scope.specs.Events.{Event, put}
use Rattle.mm_scope.specs.Steps.{Answers, State, most_symbols, unless, is_full, a_label, a_constant, a_variable, a_float, a_symbol, a_distinct, at_text, at_end, at_proof, unlabelled, at_constants, labelled, at_open, at_close, step_by}
use Rattle.mm_scope.specs.declared.fault.ReadFault.{ReadFault}
use Rattle.mm_scope.specs.declared.fault.ReadFault.TheVariants as fault
use Rattle.mm_scope.specs.declared.mode.Mode.{Mode}
use Rattle.mm_scope.specs.declared.mode.Mode.TheVariants as mode

abbrev pub is_plain : Word → Bool
is_plain word.Text = true
is_plain _ = false

abbrev pub is_end : Word → Bool
is_end word.End = true
is_end _ = false

abbrev pub is_equals : Word → Bool
is_equals word.Proof = true
is_equals _ = false

abbrev pub is_constants : Word → Bool
is_constants word.Constants = true
is_constants _ = false

abbrev pub is_close : Word → Bool
is_close word.Close = true
is_close _ = false

abbrev pub is_unknown : Word → Bool
is_unknown word.Unknown = true
is_unknown _ = false

abbrev pub is_inclusion : Word → Bool
is_inclusion word.Inclusion = true
is_inclusion _ = false

abbrev pub is_labelled : Word → Bool
is_labelled word.Float = true
is_labelled word.Essential = true
is_labelled word.Axiom = true
is_labelled word.Theorem = true
is_labelled _ = false

abbrev pub is_unlabelled : Word → Bool
is_unlabelled word.Constants = true
is_unlabelled word.Variables = true
is_unlabelled word.Distinct = true
is_unlabelled word.Open = true
is_unlabelled word.Close = true
is_unlabelled _ = false

abbrev pub is_inner : Word → Bool
is_inner word.Proof = true
is_inner word.End = true
is_inner _ = false

abbrev pub is_keyword : Word → Bool
is_keyword word.Text = false
is_keyword word.Unknown = false
is_keyword word.Inclusion = false
is_keyword _ = true

abbrev pub takes_label : Mode → Bool
takes_label mode.Start = true
takes_label _ = false

abbrev pub has_label : Mode → Bool
has_label mode.Labelled = true
has_label _ = false

abbrev pub takes_keyword : Mode → Bool
takes_keyword mode.Start = true
takes_keyword mode.Labelled = true
takes_keyword _ = false

abbrev pub in_declaration : Mode → Bool
in_declaration mode.Constants = true
in_declaration mode.Variables = true
in_declaration _ = false

abbrev pub in_expression : Mode → Bool
in_expression mode.Essential = true
in_expression mode.Axiom = true
in_expression mode.Theorem = true
in_expression _ = false

abbrev pub takes_active : Mode → Bool
takes_active mode.Distinct = true
takes_active mode.Float = true
takes_active m = in_expression m

abbrev pub takes_many : Mode → Bool
takes_many mode.Constants = true
takes_many mode.Variables = true
takes_many mode.Distinct = true
takes_many m = in_expression m

-- where so many symbols are read
module _ (k : ℕ) (a : Answers) where
  abbrev pub redeclared : Mode → Bool
  redeclared mode.Constants = a.known || a.label
  redeclared mode.Variables = (a.constant || a.active) || a.label
  redeclared _ = false

  abbrev pub wrong_in_float : Bool
  wrong_in_float = (nat_eq k 0 && a.active) || ((nat_eq k 1 && a.constant) || nat_lt 1 k)

  abbrev pub first_variable : Bool
  first_variable = nat_eq k 0 && a.active

  abbrev pub other_than_end : Word → Bool
  other_than_end w = is_keyword w && not (is_end w)

  abbrev pub misplaced : Mode → Word → Bool
  misplaced mode.Start w = is_inner w
  misplaced mode.Labelled w = is_plain w || is_inner w
  misplaced mode.Constants w = other_than_end w || (is_end w && nat_eq k 0)
  misplaced mode.Variables w = other_than_end w || (is_end w && nat_eq k 0)
  misplaced mode.Distinct w = other_than_end w
  misplaced mode.Float w = other_than_end w || ((is_end w && not (nat_eq k 2)) || (is_plain w && wrong_in_float))
  misplaced mode.Essential w = other_than_end w || ((is_end w && nat_eq k 0) || (is_plain w && first_variable))
  misplaced mode.Axiom w = other_than_end w || ((is_end w && nat_eq k 0) || (is_plain w && first_variable))
  misplaced mode.Theorem w = (is_keyword w && not (is_equals w)) || ((is_equals w && nat_eq k 0) || (is_plain w && first_variable))
  misplaced mode.Proof w = other_than_end w

  abbrev pub float_repeated : Mode → Bool
  float_repeated mode.Float = nat_eq k 1 && a.floated
  float_repeated _ = false

  -- the last is whether the symbol stands there already
  abbrev pub no_parting : Mode → Word → Bool → Bool
  no_parting mode.Distinct w there = (is_end w && nat_lt k 2) || (is_plain w && (a.constant || (a.active && there)))
  no_parting _ w there = false

-- a label of so many bytes, or a symbol where they are full
abbrev pub too_long : ℕ → Bool → Mode → Bool
too_long size full mode.Start = nat_lt 255 size
too_long size full mode.Labelled = false
too_long size full mode.Float = false
too_long size full mode.Proof = false
too_long size full _ = full

-- the test of each fault at a token t of the kind w, after the symbols ss
abbrev pub holds : Mode → List ℕ → Answers → Word → List ℕ → ReadFault → Bool
holds m ss a w t (fault.UnknownKeyword p) = is_unknown w
holds m ss a w t (fault.FileInclusion p) = is_inclusion w
holds m ss a w t (fault.BadLabel p) = is_plain w && (takes_label m && is_bad_label t)
holds m ss a w t (fault.BadSymbol p) = is_plain w && (in_declaration m && is_bad_symbol t)
holds m ss a w t (fault.Redeclared p) = is_plain w && redeclared (length ss) a m
holds m ss a w t (fault.NotActive p) = is_plain w && (takes_active m && not (a.constant || a.active))
holds m ss a w t (fault.ConstantInBlock p) = is_constants w && (takes_keyword m && a.deep)
holds m ss a w t (fault.LabelUsed p) = is_plain w && (takes_label m && (a.label || a.known))
holds m ss a w t (fault.LabelMissing p) = is_labelled w && takes_label m
holds m ss a w t (fault.LabelNotWanted p) = is_unlabelled w && has_label m
holds m ss a w t (fault.WrongForm p) = misplaced (length ss) a m w
holds m ss a w t (fault.FloatRepeated p) = is_plain w && float_repeated (length ss) a m
holds m ss a w t (fault.NoFloat p) = is_plain w && (in_expression m && (a.active && not a.floated))
holds m ss a w t (fault.DistinctForm p) = no_parting (length ss) a m w (list_any (nat_eq a.number) ss)
holds m ss a w t (fault.BlockNotOpen p) = is_close w && (takes_keyword m && not a.deep)
holds m ss a w t (fault.TooLong p) = is_plain w && too_long (length t) (not (nat_lt (length ss) most_symbols)) m
holds m ss a w t _ = false

abbrev pub faults_at : ℕ → List ReadFault
faults_at p =
    fault.UnknownKeyword p
    ∷ (fault.FileInclusion p
    ∷ (fault.BadLabel p
    ∷ (fault.BadSymbol p
    ∷ (fault.Redeclared p
    ∷ (fault.NotActive p
    ∷ (fault.ConstantInBlock p
    ∷ (fault.LabelUsed p
    ∷ (fault.LabelMissing p
    ∷ (fault.LabelNotWanted p
    ∷ (fault.WrongForm p
    ∷ (fault.FloatRepeated p
    ∷ (fault.NoFloat p
    ∷ (fault.DistinctForm p
    ∷ (fault.BlockNotOpen p
    ∷ (fault.TooLong p
    ∷ [])))))))))))))))

abbrev pub rows : Mode → List ℕ → Answers → Word → List ℕ → ℕ → List (Bool × ReadFault)
rows m ss a w t p = map (λ f. (holds m ss a w t f, f)) (faults_at p)

-- what a step answers
abbrev Answer : Type 0
Answer = Result (State (List Event)) ReadFault

declared_rows : (c v l bad full : Bool) (f g h : ReadFault) (u : State (List Event))
    → cond bad (Err f) (cond ((v || c) || l) (Err g) (cond full (Err h) (Ok u))) ≡ unless ((bad, f) ∷ ((c || v) || l, g) ∷ (full, h) ∷ []) (Ok u)
declared_rows true true l bad full f g h u = refl
declared_rows true false l bad full f g h u = refl
declared_rows false true l bad full f g h u = refl
declared_rows false false l bad full f g h u = refl

parting_rows : (c v there full : Bool) (f g h : ReadFault) (u : State (List Event))
    → cond (not (c || v)) (Err f) (cond (c || there) (Err g) (cond full (Err h) (Ok u))) ≡ unless ((not (c || v), f) ∷ (c || (v && there), g) ∷ (full, h) ∷ []) (Ok u)
parting_rows true v there full f g h u = refl
parting_rows false true there full f g h u = refl
parting_rows false false there full f g h u = refl

expression_rows : (c v floated none full : Bool) (f g h i : ReadFault) (u : State (List Event)) → (c && v) ≡ false
    → unless ((not (c || v), f) ∷ (none && not c, g) ∷ (not c && not floated, h) ∷ (full, i) ∷ []) (Ok u)
    ≡ unless ((not (c || v), f) ∷ (none && v, g) ∷ (v && not floated, h) ∷ (full, i) ∷ []) (Ok u)
expression_rows true true floated none full f g h i u apart = absurd (true≢false apart)
expression_rows true false floated true full f g h i u apart = refl
expression_rows true false floated false full f g h i u apart = refl
expression_rows false true floated none full f g h i u apart = refl
expression_rows false false floated none full f g h i u apart = refl

-- none, one or more
abbrev IsOneOf : Bool → Bool → Bool → Type 0
IsOneOf true false false = Unit {0}
IsOneOf false true false = Unit {0}
IsOneOf false false true = Unit {0}
IsOneOf _ _ _ = ⊥

counted : (k : ℕ) → IsOneOf (nat_eq k 0) (nat_eq k 1) (nat_lt 1 k)
counted zero = tt
counted (suc zero) = tt
counted (suc (suc k)) =
    subst (λ b. IsOneOf b (nat_eq (suc (suc k)) 1) (nat_lt 1 (suc (suc k)))) (sym no_zero)
    (subst (λ b. IsOneOf false b (nat_lt 1 (suc (suc k)))) (sym no_one) (subst (IsOneOf false false) (sym many) tt))
  where
    no_zero : nat_eq (suc (suc k)) 0 ≡ false
    no_zero = grind arith

    no_one : nat_eq (suc (suc k)) 1 ≡ false
    no_one = grind arith

    many : nat_lt 1 (suc (suc k)) ≡ true
    many = grind arith

float_rows : (none one many c v floated : Bool) (f g h : ReadFault) (u : State (List Event)) → IsOneOf none one many → (c && v) ≡ false
    → cond (not (c || v)) (Err f) (cond none (cond c (Ok u) (Err g)) (cond (many || c) (Err g) (cond floated (Err h) (Ok u))))
    ≡ unless ((not (c || v), f) ∷ ((none && v) || ((one && c) || many), g) ∷ (one && floated, h) ∷ []) (Ok u)
float_rows true true many c v floated f g h u counted apart = absurd counted
float_rows true false true c v floated f g h u counted apart = absurd counted
float_rows true false false true true floated f g h u counted apart = absurd (true≢false apart)
float_rows true false false true false floated f g h u counted apart = refl
float_rows true false false false true floated f g h u counted apart = refl
float_rows true false false false false floated f g h u counted apart = refl
float_rows false true true c v floated f g h u counted apart = absurd counted
float_rows false true false true true floated f g h u counted apart = absurd (true≢false apart)
float_rows false true false true false floated f g h u counted apart = refl
float_rows false true false false true floated f g h u counted apart = refl
float_rows false true false false false floated f g h u counted apart = refl
float_rows false false true true v floated f g h u counted apart = refl
float_rows false false true false true floated f g h u counted apart = refl
float_rows false false true false false floated f g h u counted apart = refl
float_rows false false false c v floated f g h u counted apart = absurd counted

ending_rows : (b : Bool) (f : ReadFault) (u : State (List Event)) → cond b (Err f) (Ok u) ≡ unless ((b || false, f) ∷ []) (Ok u)
ending_rows true f u = refl
ending_rows false f u = refl

float_ending : (b : Bool) (f : ReadFault) (u : State (List Event)) → cond b (Ok u) (Err f) ≡ unless ((not b || false, f) ∷ []) (Ok u)
float_ending true f u = refl
float_ending false f u = refl

-- the step answers the first row that holds
pub record IsFirstOf (r : Answer) (cs : List (Bool × ReadFault)) : Type 0 where
  pub fine : State (List Event)
  pub is : r ≡ unless cs (Ok fine)

module _ (s : State (List Event)) (a : Answers) (t : List ℕ) (p : ℕ) where
  abbrev Rows : Mode → Word → List (Bool × ReadFault)
  Rows m w = rows m s.buffer a w t p

  -- a constant is no variable
  module _ (apart : (a.constant && a.active) ≡ false) where
    symbol_first : (m : Mode) → in_expression m ≡ true → IsFirstOf (a_symbol s a p) (Rows m word.Text)
    unfolding a_symbol
    symbol_first mode.Essential is = record { fine = _; is = expression_rows a.constant a.active a.floated (nat_eq (length s.buffer) 0) (is_full s) _ _ _ _ _ apart }
    symbol_first mode.Axiom is = record { fine = _; is = expression_rows a.constant a.active a.floated (nat_eq (length s.buffer) 0) (is_full s) _ _ _ _ _ apart }
    symbol_first mode.Theorem is = record { fine = _; is = expression_rows a.constant a.active a.floated (nat_eq (length s.buffer) 0) (is_full s) _ _ _ _ _ apart }
    symbol_first _ is = absurd (false≢true is)

    text_first : (m : Mode) → IsFirstOf (at_text put s m a t p) (Rows m word.Text)
    unfolding at_text a_label a_constant a_variable a_distinct a_float
    text_first mode.Start = record { fine = _; is = refl }
    text_first mode.Labelled = record { fine = s; is = refl }
    text_first mode.Constants = record { fine = _; is = refl }
    text_first mode.Variables = record { fine = _; is = declared_rows a.constant a.active a.label (is_bad_symbol t) (is_full s) _ _ _ _ }
    text_first mode.Distinct = record { fine = _; is = parting_rows a.constant a.active (list_any (nat_eq a.number) s.buffer) (is_full s) _ _ _ _ }
    text_first mode.Float = record { fine = _; is = float_rows (nat_eq (length s.buffer) 0) (nat_eq (length s.buffer) 1) (nat_lt 1 (length s.buffer)) a.constant a.active a.floated _ _ _ _ (counted (length s.buffer)) apart }
    text_first mode.Essential = symbol_first mode.Essential refl
    text_first mode.Axiom = symbol_first mode.Axiom refl
    text_first mode.Theorem = symbol_first mode.Theorem refl
    text_first mode.Proof = record { fine = s; is = refl }

  end_first : (m : Mode) → IsFirstOf (at_end put s m p) (Rows m word.End)
  unfolding at_end
  end_first mode.Start = record { fine = s; is = refl }
  end_first mode.Labelled = record { fine = s; is = refl }
  end_first mode.Constants = record { fine = _; is = refl }
  end_first mode.Variables = record { fine = _; is = refl }
  end_first mode.Distinct = record { fine = _; is = ending_rows (nat_lt (length s.buffer) 2) _ _ }
  end_first mode.Float = record { fine = _; is = float_ending (nat_eq (length s.buffer) 2) _ _ }
  end_first mode.Essential = record { fine = _; is = ending_rows (nat_eq (length s.buffer) 0) _ _ }
  end_first mode.Axiom = record { fine = _; is = ending_rows (nat_eq (length s.buffer) 0) _ _ }
  end_first mode.Theorem = record { fine = s; is = refl }
  end_first mode.Proof = record { fine = _; is = refl }

  proof_first : (m : Mode) → IsFirstOf (at_proof s m p) (Rows m word.Proof)
  unfolding at_proof
  proof_first mode.Theorem = record { fine = _; is = ending_rows (nat_eq (length s.buffer) 0) _ _ }
  proof_first _ = record { fine = s; is = refl }

  constants_first : (m : Mode) → IsFirstOf (at_constants s m a.deep p) (Rows m word.Constants)
  unfolding at_constants
  constants_first mode.Start = record { fine = _; is = refl }
  constants_first mode.Labelled = record { fine = s; is = refl }
  constants_first _ = record { fine = s; is = refl }

  variables_first : (m : Mode) → IsFirstOf (unlabelled s m mode.Variables p) (Rows m word.Variables)
  unfolding unlabelled
  variables_first mode.Start = record { fine = _; is = refl }
  variables_first mode.Labelled = record { fine = s; is = refl }
  variables_first _ = record { fine = s; is = refl }

  distinct_first : (m : Mode) → IsFirstOf (unlabelled s m mode.Distinct p) (Rows m word.Distinct)
  unfolding unlabelled
  distinct_first mode.Start = record { fine = _; is = refl }
  distinct_first mode.Labelled = record { fine = s; is = refl }
  distinct_first _ = record { fine = s; is = refl }

  float_first : (m : Mode) → IsFirstOf (labelled s m mode.Float p) (Rows m word.Float)
  unfolding labelled
  float_first mode.Labelled = record { fine = _; is = refl }
  float_first mode.Start = record { fine = s; is = refl }
  float_first _ = record { fine = s; is = refl }

  essential_first : (m : Mode) → IsFirstOf (labelled s m mode.Essential p) (Rows m word.Essential)
  unfolding labelled
  essential_first mode.Labelled = record { fine = _; is = refl }
  essential_first mode.Start = record { fine = s; is = refl }
  essential_first _ = record { fine = s; is = refl }

  axiom_first : (m : Mode) → IsFirstOf (labelled s m mode.Axiom p) (Rows m word.Axiom)
  unfolding labelled
  axiom_first mode.Labelled = record { fine = _; is = refl }
  axiom_first mode.Start = record { fine = s; is = refl }
  axiom_first _ = record { fine = s; is = refl }

  theorem_first : (m : Mode) → IsFirstOf (labelled s m mode.Theorem p) (Rows m word.Theorem)
  unfolding labelled
  theorem_first mode.Labelled = record { fine = _; is = refl }
  theorem_first mode.Start = record { fine = s; is = refl }
  theorem_first _ = record { fine = s; is = refl }

  open_first : (m : Mode) → IsFirstOf (at_open put s m p) (Rows m word.Open)
  unfolding at_open
  open_first mode.Start = record { fine = _; is = refl }
  open_first mode.Labelled = record { fine = s; is = refl }
  open_first _ = record { fine = s; is = refl }

  close_first : (m : Mode) → IsFirstOf (at_close put s m a.deep p) (Rows m word.Close)
  unfolding at_close
  close_first mode.Start = by a.deep _
    where
      by : (deep : Bool) (u : State (List Event)) → IsFirstOf (cond deep (Ok u) (Err (fault.BlockNotOpen p))) (rows mode.Start s.buffer (record a { deep = deep }) word.Close t p)
      by true u = record { fine = u; is = refl }
      by false u = record { fine = u; is = refl }
  close_first mode.Labelled = record { fine = s; is = refl }
  close_first _ = record { fine = s; is = refl }

  pub step_first : (w : Word) → (a.constant && a.active) ≡ false → IsFirstOf (step_by put s a w t p) (Rows s.mode w)
  unfolding step_by
  step_first word.Unknown apart = record { fine = s; is = refl }
  step_first word.Inclusion apart = record { fine = s; is = refl }
  step_first word.Text apart = text_first apart s.mode
  step_first word.End apart = end_first s.mode
  step_first word.Proof apart = proof_first s.mode
  step_first word.Constants apart = constants_first s.mode
  step_first word.Variables apart = variables_first s.mode
  step_first word.Distinct apart = distinct_first s.mode
  step_first word.Open apart = open_first s.mode
  step_first word.Close apart = close_first s.mode
  step_first word.Float apart = float_first s.mode
  step_first word.Essential apart = essential_first s.mode
  step_first word.Axiom apart = axiom_first s.mode
  step_first word.Theorem apart = theorem_first s.mode
