-- The mandatory hypotheses of a statement are hypotheses.
use Rattle.std.proofs.Common.{◌≡◌, ◌<◌, ℕ, Bool, true, false, cond, List, [], ◌∷◌, ◌++◌, Option, length, filter, All, length-append, arith, refl, sym, ap, ◌∙◌, subst, inl, inr}
use Rattle.std.proofs.Math.ListN.{get_or-eq_default}
use Rattle.std.proofs.lemmas.Bool.{cases_lt, false≢true}
use Rattle.std.proofs.lemmas.List.{get_or_append_left}
use Rattle.std.proofs.lemmas.List.Elements.{All-push, All-nil, All-from_recursion}
use Rattle.std.specs.List.{AllByRecursion as ByRecursion}
use Rattle.mm_tokens.specs.declared.pieces.Span.{Span}
use Rattle.mm_scope.specs.Contents.{events_of, statements_of, stated_at}
use Rattle.mm_scope.specs.Events.{Event, constant, variable, float, essential, asserted, theorem, distinct, opened, closed, statements, active_hypotheses, active_distinct}
use Rattle.mm_stated.specs.Mandatory.{statement_at, an_assertion, mandatory_of, symbols_with, is_mandatory, is_mandatory_by}
use Rattle.mm_stated.specs.Stated.{Stated, no_statement, a_hypothesis, is_hypothesis}
use Rattle.mm_stated.specs.declared.statement.Kind.{Kind}
use Rattle.mm_stated.specs.declared.statement.Kind.TheVariants as kind

-- one of these statements, and a hypothesis
record IsOne (xs : List Stated) (m : ℕ) : Type 0 where
  there : m < length xs
  is : is_hypothesis (statement_at xs m).kind ≡ true

abbrev Has : List Stated → Stated → Type 0
Has xs s = ByRecursion (IsOne xs) s.mandatory

one_longer : (xs : List Stated) (t : Stated) (m : ℕ) → IsOne xs m → IsOne (xs ++ t ∷ []) m
one_longer xs t m h = record {
  there = omega (arith, h.there, length-append xs (t ∷ []));
  is = ap (λ s. is_hypothesis s.kind) (get_or_append_left xs (t ∷ []) no_statement m h.there) ∙ h.is;
}

all_longer : (xs : List Stated) (t : Stated) (ms : List ℕ) → ByRecursion (IsOne xs) ms → ByRecursion (IsOne (xs ++ t ∷ [])) ms
all_longer xs t [] h = tt
all_longer xs t (m ∷ ms) h = (one_longer xs t m h.0, all_longer xs t ms h.1)

-- a mandatory one is a hypothesis, and there
by_kind : (k : Kind) (needed : Bool) → is_mandatory_by k needed ≡ true → is_hypothesis k ≡ true
by_kind kind.Float needed h = refl
by_kind kind.Essential needed h = refl
by_kind kind.Axiom needed h = absurd (false≢true h)
by_kind kind.Theorem needed h = absurd (false≢true h)

is_one : (xs : List Stated) (needed : List ℕ) (m : ℕ) → is_mandatory needed (statement_at xs m) ≡ true → IsOne xs m
is_one xs needed m h =
    let is : is_hypothesis (statement_at xs m).kind ≡ true = by_kind (statement_at xs m).kind _ h in
    elim (cases_lt m (length xs)) [
      | inl less ↦ record { there = less; is = is }
      | inr other ↦ absurd (false≢true (ap (λ s. is_hypothesis s.kind) (sym (get_or-eq_default xs no_statement other)) ∙ is))
    ]

kept : (xs : List Stated) (needed ids : List ℕ) → ByRecursion (IsOne xs) (filter (λ m. is_mandatory needed (statement_at xs m)) ids)
kept xs needed [] = tt
kept xs needed (m ∷ ms) = by (is_mandatory needed (statement_at xs m)) refl (kept xs needed ms)
  where
    by : (b : Bool) → is_mandatory needed (statement_at xs m) ≡ b → ByRecursion (IsOne xs) (filter (λ n. is_mandatory needed (statement_at xs n)) ms)
        → ByRecursion (IsOne xs) (cond b (m ∷ filter (λ n. is_mandatory needed (statement_at xs n)) ms) (filter (λ n. is_mandatory needed (statement_at xs n)) ms))
    by true e rest = (is_one xs needed m e, rest)
    by false e rest = rest

assertion_has : (xs : List Stated) (ids : List ℕ) (groups : List (List ℕ)) (k : Kind) (ss : List ℕ) (from to : ℕ) (d : Option Span) → Has xs (an_assertion xs ids groups k ss from to d)
unfolding mandatory_of
assertion_has xs ids groups k ss from to d = kept xs (symbols_with xs ids ss) ids

with_more : (xs : List Stated) (t : Stated) → All (Has xs) xs → Has xs t → All (Has (xs ++ t ∷ [])) (xs ++ t ∷ [])
with_more xs t all one = All-push (Has (xs ++ t ∷ [])) xs t (λ k d small. all_longer xs t _ (all k d small)) (all_longer xs t t.mandatory one)

all_have : (past : List Event) → All (Has (statements past)) (statements past)
unfolding statements
all_have [] = All-nil _
all_have (float l ss d ∷ past) = with_more (statements past) (a_hypothesis kind.Float ss d) (all_have past) tt
all_have (essential l ss d ∷ past) = with_more (statements past) (a_hypothesis kind.Essential ss d) (all_have past) tt
all_have (asserted l ss d ∷ past) =
    with_more (statements past) (an_assertion (statements past) (active_hypotheses past) (active_distinct past) kind.Axiom ss 0 0 d) (all_have past)
    (assertion_has (statements past) (active_hypotheses past) (active_distinct past) kind.Axiom ss 0 0 d)
all_have (theorem l ss from to d ∷ past) =
    with_more (statements past) (an_assertion (statements past) (active_hypotheses past) (active_distinct past) kind.Theorem ss from to d) (all_have past)
    (assertion_has (statements past) (active_hypotheses past) (active_distinct past) kind.Theorem ss from to d)
all_have (constant t n ∷ past) = all_have past
all_have (variable t n ∷ past) = all_have past
all_have (distinct ss ∷ past) = all_have past
all_have (opened p ∷ past) = all_have past
all_have (closed ∷ past) = all_have past

hypotheses_by : (xs : List Stated) (ms : List ℕ) → ByRecursion (IsOne xs) ms → ByRecursion (λ m. is_hypothesis (statement_at xs m).kind ≡ true) ms
hypotheses_by xs [] h = tt
hypotheses_by xs (m ∷ ms) h = (h.0.is, hypotheses_by xs ms h.1)

has_at : (bytes : List ℕ) (id : ℕ) → Has (statements_of bytes) (stated_at bytes id)
unfolding statements_of
has_at bytes id = elim (cases_lt id (length (statements_of bytes))) [
  | inl less ↦ all_have (events_of bytes) id no_statement less
  | inr other ↦ subst (Has (statements_of bytes)) (sym (get_or-eq_default (statements_of bytes) no_statement other)) tt
]

pub mandatory_hypotheses : (bytes : List ℕ) (id : ℕ) → All (λ m. is_hypothesis (stated_at bytes m).kind ≡ true) (stated_at bytes id).mandatory
mandatory_hypotheses bytes id =
    All-from_recursion (λ m. is_hypothesis (stated_at bytes m).kind ≡ true) (stated_at bytes id).mandatory (hypotheses_by (statements_of bytes) (stated_at bytes id).mandatory (has_at bytes id))
