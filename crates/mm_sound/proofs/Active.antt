-- The mandatory hypotheses of a theorem are active there.
use Rattle.std.proofs.Common.{◌≡◌, ◌<◌, ◌≤◌, ◌+◌, ◌||◌, ℕ, Bool, true, false, cond, nat_eq, nat_le, List, [], ◌∷◌, ◌++◌, Option, length, filter, length-append, arith, refl, sym, ap, ◌∙◌, subst, inl, inr, eq-eqb, if◌then◌else◌}
use Rattle.std.proofs.Math.ListN.{get_or-eq_default}
use Rattle.std.proofs.Math.Seq.{get_or-append_seam}
use Rattle.std.proofs.lemmas.Bool.{cases_lt}
use Rattle.std.proofs.lemmas.Bool.Decides.{nat_tests}
use Rattle.std.proofs.lemmas.List.{get_or_append_left}
use Rattle.std.specs.List.{list_any, AllByRecursion as ByRecursion}
use Rattle.mm_tokens.specs.declared.pieces.Span.{Span}
use Rattle.mm_scope.specs.Contents.{events_of, statements_of, stated_at, past_before, active_at}
use Rattle.mm_scope.specs.Events.{Event, constant, variable, float, essential, asserted, theorem, distinct, opened, closed, labels, statements, active_hypotheses, active_distinct}
use Rattle.mm_stated.specs.Mandatory.{statement_at, an_assertion, mandatory_of, symbols_with, is_mandatory}
use Rattle.mm_stated.specs.Stated.{Stated, no_statement, a_hypothesis}
use Rattle.mm_stated.specs.declared.statement.Kind.{Kind}
use Rattle.mm_stated.specs.declared.statement.Kind.TheVariants as kind
use Rattle.mm_plain.proofs.Reading.{as_many}

-- ids that are among these
abbrev pub AreAmong : List ℕ → List ℕ → Type 0
AreAmong active ids = ByRecursion (λ m. list_any (nat_eq m) active ≡ true) ids

later_by : (b c : Bool) → c ≡ true → (b || c) ≡ true
later_by true c h = refl
later_by false c h = h

later : (x : ℕ) (active ids : List ℕ) → AreAmong active ids → AreAmong (x ∷ active) ids
later x active [] h = tt
later x active (m ∷ ms) h = (later_by (nat_eq m x) (list_any (nat_eq m) active) h.0, later x active ms h.1)

first_by : (b c : Bool) → b ≡ true → (b || c) ≡ true
first_by b c h = ap (λ d. d || c) h

themselves : (ids : List ℕ) → AreAmong ids ids
themselves [] = tt
themselves (m ∷ ms) = (first_by (nat_eq m m) (list_any (nat_eq m) ms) (eq-eqb m m refl), later m ms ms (themselves ms))

filtered : (active : List ℕ) (p : ℕ → Bool) (ids : List ℕ) → AreAmong active ids → AreAmong active (filter p ids)
filtered active p [] h = tt
filtered active p (m ∷ ms) h = by (p m) (filtered active p ms h.1)
  where
    by : (b : Bool) → AreAmong active (filter p ms) → AreAmong active (cond b (m ∷ filter p ms) (filter p ms))
    by true rest = (h.0, rest)
    by false rest = rest

-- the mandatory hypotheses of a statement are active at it
abbrev Has : List Event → ℕ → Type 0
Has past id = AreAmong (active_hypotheses (past_before id past)) (statement_at (statements past) id).mandatory

not_yet : (n id : ℕ) → id < n → nat_le n id ≡ false
not_yet n id h = grind (arith, nat_tests)

before_more : (e : Event) (past : List Event) (id : ℕ) → id < length (labels (e ∷ past)) → past_before id (e ∷ past) ≡ past_before id past
unfolding past_before
before_more e past id h = ap (λ b. if b then e ∷ past else past_before id past) (not_yet (length (labels (e ∷ past))) id h)

all_before : (past : List Event) (id : ℕ) → length (labels past) ≤ id → past_before id past ≡ past
unfolding past_before
all_before [] id h = refl
all_before (e ∷ past) id h = ap (λ b. if b then e ∷ past else past_before id past) (yet (length (labels (e ∷ past))) id h)
  where
    yet : (n id : ℕ) → n ≤ id → nat_le n id ≡ true
    yet n id h = grind (arith, nat_tests)

module _ (past : List Event) (have : (id : ℕ) → Has past id) where
  -- an event without a statement
  same_statements : (e : Event) → statements (e ∷ past) ≡ statements past → labels (e ∷ past) ≡ labels past → (id : ℕ) → Has (e ∷ past) id
  same_statements e same names id = elim (cases_lt id (length (statements past))) [
    | inl less ↦
        subst (λ (ps : List Event). AreAmong (active_hypotheses ps) (statement_at (statements (e ∷ past)) id).mandatory)
        (sym (before_more e past id (omega (arith, less, as_many past, ap (λ (q : List (List ℕ)). length q) names))))
        (subst (λ (ss : List Stated). AreAmong (active_hypotheses (past_before id past)) (statement_at ss id).mandatory) (sym same) (have id))
    | inr other ↦
        subst (λ (s : Stated). AreAmong (active_hypotheses (past_before id (e ∷ past))) s.mandatory)
        (sym (ap (λ (ss : List Stated). statement_at ss id) same ∙ get_or-eq_default (statements past) no_statement other)) tt
  ]

  -- an event with one
  one_statement : (e : Event) (s : Stated) (l : List ℕ) → statements (e ∷ past) ≡ statements past ++ s ∷ [] → labels (e ∷ past) ≡ labels past ++ l ∷ [] → AreAmong (active_hypotheses past) s.mandatory → (id : ℕ) → Has (e ∷ past) id
  one_statement e s l same names own id =
      let count : length (labels (e ∷ past)) ≡ length (statements past) + 1 = omega (arith, as_many past, ap (λ (q : List (List ℕ)). length q) names, length-append (labels past) (l ∷ [])) in
      let here : (id : ℕ) → id ≤ length (statements past) → past_before id (e ∷ past) ≡ past_before id past = λ id h. before_more e past id (omega (arith, h, count)) in
      elim (cases_lt id (length (statements past))) [
        | inl less ↦
            subst (λ (ps : List Event). AreAmong (active_hypotheses ps) (statement_at (statements (e ∷ past)) id).mandatory) (sym (here id (omega (arith, less))))
            (subst (λ (t : Stated). AreAmong (active_hypotheses (past_before id past)) t.mandatory)
            (sym (ap (λ (ss : List Stated). statement_at ss id) same ∙ get_or_append_left (statements past) (s ∷ []) no_statement id less)) (have id))
        | inr other ↦ elim (cases_lt (length (statements past)) id) [
          | inl more ↦
              subst (λ (t : Stated). AreAmong (active_hypotheses (past_before id (e ∷ past))) t.mandatory)
              (sym (ap (λ (ss : List Stated). statement_at ss id) same ∙ get_or-eq_default (statements past ++ s ∷ []) no_statement (omega (arith, more, length-append (statements past) (s ∷ []))))) tt
          | inr no_more ↦
              let at : id ≡ length (statements past) = omega (arith, other, no_more) in
              subst (λ (ps : List Event). AreAmong (active_hypotheses ps) (statement_at (statements (e ∷ past)) id).mandatory)
              (sym (here id no_more ∙ all_before past id (omega (arith, other, as_many past))))
              (subst (λ (t : Stated). AreAmong (active_hypotheses past) t.mandatory)
              (sym (ap (λ (ss : List Stated). statement_at ss id) same ∙ ap (statement_at (statements past ++ s ∷ [])) at ∙ get_or-append_seam (statements past) s [] no_statement)) own)
        ]
      ]

mandatory_among : (xs : List Stated) (ids : List ℕ) (groups : List (List ℕ)) (k : Kind) (ss : List ℕ) (from to : ℕ) (d : Option Span) → AreAmong ids (an_assertion xs ids groups k ss from to d).mandatory
unfolding mandatory_of
mandatory_among xs ids groups k ss from to d = filtered ids (λ id. is_mandatory (symbols_with xs ids ss) (statement_at xs id)) ids (themselves ids)

all_have : (past : List Event) (id : ℕ) → Has past id
unfolding statements labels
all_have [] id = tt
all_have (float l ss d ∷ past) id = one_statement past (all_have past) (float l ss d) (a_hypothesis kind.Float ss d) l refl refl tt id
all_have (essential l ss d ∷ past) id = one_statement past (all_have past) (essential l ss d) (a_hypothesis kind.Essential ss d) l refl refl tt id
all_have (asserted l ss d ∷ past) id =
    one_statement past (all_have past) (asserted l ss d) (an_assertion (statements past) (active_hypotheses past) (active_distinct past) kind.Axiom ss 0 0 d) l refl refl
    (mandatory_among (statements past) (active_hypotheses past) (active_distinct past) kind.Axiom ss 0 0 d) id
all_have (theorem l ss from to d ∷ past) id =
    one_statement past (all_have past) (theorem l ss from to d) (an_assertion (statements past) (active_hypotheses past) (active_distinct past) kind.Theorem ss from to d) l refl refl
    (mandatory_among (statements past) (active_hypotheses past) (active_distinct past) kind.Theorem ss from to d) id
all_have (constant t n ∷ past) id = same_statements past (all_have past) (constant t n) refl refl id
all_have (variable t n ∷ past) id = same_statements past (all_have past) (variable t n) refl refl id
all_have (distinct ss ∷ past) id = same_statements past (all_have past) (distinct ss) refl refl id
all_have (opened p ∷ past) id = same_statements past (all_have past) (opened p) refl refl id
all_have (closed ∷ past) id = same_statements past (all_have past) closed refl refl id

pub mandatory_active : (bytes : List ℕ) (id : ℕ) → AreAmong (active_at bytes id) (stated_at bytes id).mandatory
unfolding statements_of active_at
mandatory_active bytes id = all_have (events_of bytes) id
