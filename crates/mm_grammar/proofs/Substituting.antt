-- In each database the mandatory `$f` of a statement are apart, so an assertion substitutes.
use Rattle.std.proofs.Common.{◌≡◌, ◌<◌, ℕ, Bool, true, false, cond, List, [], ◌∷◌, Option, None, Some, length, map, slice_index, nat_eq, refl, sym, ap, ◌∙◌, subst, arith, inl, inr}
use Rattle.std.proofs.lemmas.Bool.{eqb-true, true≢false, false≢true, cases_lt, or_from, false_from_ne_true}
use Rattle.std.proofs.lemmas.Option.{slice_get-get_or}
use Rattle.std.specs.List.{list_any, cons_option}
use Rattle.mm_stated.specs.Mandatory.{variables_of}
use Rattle.mm_stated.specs.Stated.{Stated, no_statement, floated_by, variable_of}
use Rattle.mm_stated.specs.declared.statement.Kind.{Kind}
use Rattle.mm_stated.specs.declared.statement.Kind.TheVariants as kind
use Rattle.mm_scope.specs.Contents.{events_of, labels_of, statements_of, stated_at, is_variable_of}
use Rattle.mm_stack.specs.Laws.{variables_of as float_variables, AreApart, hypotheses_of}
use Rattle.mm_stack.specs.Running.{is_float}
use Rattle.mm_plain.proofs.Forms.{formed, counted, no_other}
use Rattle.mm_grammar.proofs.Floating.{AreSingle, AreBelow, HasSingle, all_single}
use Rattle.mm_grammar.proofs.Following.{followed}

is_float_kind : (k : Kind) → is_float k ≡ true → k ≡ kind.Float
is_float_kind kind.Float h = refl
is_float_kind kind.Essential h = absurd (false≢true h)
is_float_kind kind.Axiom h = absurd (false≢true h)
is_float_kind kind.Theorem h = absurd (false≢true h)

module _ (bytes : List ℕ) where
  abbrev hypotheses : List ℕ → List Stated
  hypotheses ids = map (stated_at bytes) ids

  -- the variable of a `$f`, as one more or as none
  one_variable : (id : ℕ) → id < length (labels_of bytes) → (k : Kind) → (stated_at bytes id).kind ≡ k → (vs : List ℕ)
      → cond (is_float k) (slice_index (stated_at bytes id).symbols 1 ∷ vs) vs ≡ cons_option (floated_by k (stated_at bytes id).symbols 1) vs
  one_variable id small kind.Float e vs =
      ap (λ v. cons_option v vs) (sym (slice_get-get_or (stated_at bytes id).symbols 1 0 (omega (arith, (formed bytes id small).pair e))))
  one_variable id small kind.Essential e vs = refl
  one_variable id small kind.Axiom e vs = refl
  one_variable id small kind.Theorem e vs = refl

  same_variables : (ids : List ℕ) → AreBelow (length (labels_of bytes)) ids → float_variables (hypotheses ids) ≡ variables_of (statements_of bytes) ids
  unfolding variables_of
  same_variables [] h = refl
  same_variables (id ∷ ids) h =
      one_variable id h.0 (stated_at bytes id).kind refl (float_variables (hypotheses ids))
      ∙ ap (cons_option (variable_of (stated_at bytes id))) (same_variables ids h.1)

  -- a constant is the variable of none
  differs : (c v : ℕ) → is_variable_of bytes c ≡ false → is_variable_of bytes v ≡ true → nat_eq c v ≡ false
  differs c v h g = false_from_ne_true (nat_eq c v) (λ e. true≢false (sym g ∙ ap (is_variable_of bytes) (sym (eqb-true c v e)) ∙ h))

  no_variable : (c : ℕ) → is_variable_of bytes c ≡ false → (ids : List ℕ) → AreBelow (length (labels_of bytes)) ids → list_any (nat_eq c) (float_variables (hypotheses ids)) ≡ false
  no_variable c h [] below = refl
  no_variable c h (id ∷ ids) below = by (is_float (stated_at bytes id).kind) refl (no_variable c h ids below.1)
    where
      by : (b : Bool) → is_float (stated_at bytes id).kind ≡ b → list_any (nat_eq c) (float_variables (hypotheses ids)) ≡ false
          → list_any (nat_eq c) (cond b (slice_index (stated_at bytes id).symbols 1 ∷ float_variables (hypotheses ids)) (float_variables (hypotheses ids))) ≡ false
      by true e later =
          or_from (nat_eq c (slice_index (stated_at bytes id).symbols 1)) (list_any (nat_eq c) (float_variables (hypotheses ids)))
          (differs c (slice_index (stated_at bytes id).symbols 1) h ((formed bytes id below.0).variable (is_float_kind (stated_at bytes id).kind e))) later
      by false e later = later

  later_single : (id : ℕ) → id < length (labels_of bytes) → (stated_at bytes id).kind ≡ kind.Float → (vs : List ℕ)
      → AreSingle (cons_option (variable_of (stated_at bytes id)) vs) → list_any (nat_eq (slice_index (stated_at bytes id).symbols 1)) vs ≡ false
  later_single id small e vs s =
      let ss : List ℕ = (stated_at bytes id).symbols in
      (subst (λ r. AreSingle (cons_option r vs)) (ap (λ k. floated_by k ss 1) e ∙ slice_get-get_or ss 1 0 (omega (arith, (formed bytes id small).pair e))) s).0

  all_apart : (vs ids : List ℕ) → AreBelow (length (labels_of bytes)) ids → ((c : ℕ) → is_variable_of bytes c ≡ false → list_any (nat_eq c) vs ≡ false)
      → AreSingle (variables_of (statements_of bytes) ids) → AreApart vs (hypotheses ids)
  unfolding variables_of
  all_apart vs [] below constants single = tt
  all_apart vs (id ∷ ids) below constants single = (
    λ is. let f = is_float_kind (stated_at bytes id).kind is in
        record {
          pair = (formed bytes id below.0).pair f;
          typecode = constants (slice_index (stated_at bytes id).symbols 0) (formed bytes id below.0).typecode;
          variable = ap (list_any (nat_eq (slice_index (stated_at bytes id).symbols 1))) (same_variables ids below.1)
              ∙ later_single id below.0 f (variables_of (statements_of bytes) ids) single;
        },
    all_apart vs ids below.1 constants (rest (variable_of (stated_at bytes id)) (variables_of (statements_of bytes) ids) single),
  )
    where
      rest : (r : Option ℕ) (xs : List ℕ) → AreSingle (cons_option r xs) → AreSingle xs
      rest None xs s = s
      rest (Some m) xs s = s.1

  all_single_at : (id : ℕ) → id < length (labels_of bytes) → HasSingle (statements_of bytes) (stated_at bytes id)
  unfolding statements_of
  all_single_at id small = all_single (events_of bytes) (followed bytes) id no_statement (omega (arith, small, counted bytes))

  -- the mandatory `$f` of each statement are apart
  pub floats_apart : (id : ℕ) → AreApart (float_variables (hypotheses_of bytes (stated_at bytes id))) (hypotheses_of bytes (stated_at bytes id))
  floats_apart id = elim (cases_lt id (length (labels_of bytes))) [
    | inl own ↦
        let w = all_single_at id own in
        let below = subst (λ n. AreBelow n (stated_at bytes id).mandatory) (counted bytes) w.below in
        all_apart (float_variables (hypotheses (stated_at bytes id).mandatory)) (stated_at bytes id).mandatory below
        (λ c h. no_variable c h (stated_at bytes id).mandatory below) w.single
    | inr other ↦ subst (λ s. AreApart (float_variables (hypotheses_of bytes s)) (hypotheses_of bytes s)) (sym (no_other bytes id other)) tt
  ]

  -- the variables of the mandatory `$f` are the mandatory variables
  pub variables_at : (id : ℕ) → float_variables (hypotheses_of bytes (stated_at bytes id)) ≡ variables_of (statements_of bytes) (stated_at bytes id).mandatory
  unfolding variables_of
  variables_at id = elim (cases_lt id (length (labels_of bytes))) [
    | inl own ↦
        let w = all_single_at id own in
        same_variables (stated_at bytes id).mandatory (subst (λ n. AreBelow n (stated_at bytes id).mandatory) (counted bytes) w.below)
    | inr other ↦
        subst (λ (s : Stated). float_variables (hypotheses_of bytes s) ≡ variables_of (statements_of bytes) s.mandatory) (sym (no_other bytes id other)) refl
  ]
