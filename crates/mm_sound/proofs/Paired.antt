-- The variables of a mandatory pair are mandatory.
use Rattle.std.proofs.Common.{◌≡◌, ◌<◌, ℕ, Bool, true, false, cond, ◌||◌, nat_eq, List, [], ◌∷◌, ◌++◌, Option, None, Some, length, map, filter, filter_map, get_or, All, length-append, arith, refl, sym, ap, ◌∙◌, subst, ◌⊎◌, inl, inr}
use Rattle.std.proofs.Math.ListN.{get_or-eq_default}
use Rattle.std.proofs.lemmas.Bool.{cases_lt}
use Rattle.std.proofs.lemmas.Bool.Decides.{nat_tests}
use Rattle.std.proofs.lemmas.List.{get_or_append_left}
use Rattle.std.proofs.lemmas.List.Elements.{All-push, All-nil, All-weaker, All-from_recursion}
use Rattle.std.specs.List.{list_any, cons_option, AllByRecursion as ByRecursion}
use Rattle.mm_tokens.specs.declared.pieces.Span.{Span}
use Rattle.mm_tables.specs.Distinct.{are_distinct, pairs_with, pairs_among}
use Rattle.mm_scope.specs.Contents.{events_of, statements_of, stated_at}
use Rattle.mm_scope.specs.Events.{Event, constant, variable, float, essential, asserted, theorem, distinct, opened, closed, statements, active_hypotheses, active_distinct}
use Rattle.mm_stated.specs.Mandatory.{statement_at, an_assertion, mandatory_of, variables_of}
use Rattle.mm_stated.specs.Stated.{Stated, no_statement, a_hypothesis, is_hypothesis, variable_of}
use Rattle.mm_stated.specs.declared.statement.Kind.{Kind}
use Rattle.mm_stated.specs.declared.statement.Kind.TheVariants as kind
use Rattle.mm_plain.specs.Premises.{variables_for}

-- one of these statements is the `$f` of a variable
abbrev IsFloat : List Stated → ℕ → ℕ → Type 0
IsFloat xs m v = (m < length xs) × (variable_of (statement_at xs m) ≡ Some v)

-- so is one among some
abbrev Floats : List Stated → List ℕ → ℕ → Type 0
Floats xs [] v = ⊥
Floats xs (m ∷ ms) v = IsFloat xs m v ⊎ Floats xs ms v

-- both variables of a pair have one among the mandatory hypotheses of an assertion
abbrev IsPaired : List Stated → Stated → ℕ × ℕ → Type 0
IsPaired xs s p = (is_hypothesis s.kind ≡ false) × (Floats xs s.mandatory p.0 × Floats xs s.mandatory p.1)

abbrev Has : List Stated → Stated → Type 0
Has xs s = All (IsPaired xs s) s.pairs

-- a statement with a variable is there
there_by : (o : Option ℕ) (v : ℕ) → o ≡ None → o ≡ Some v → ⊥
there_by o v e f = let g : (let n : Option ℕ = None in n) ≡ Some v = sym e ∙ f in cc

is_float : (xs : List Stated) (m v : ℕ) → variable_of (statement_at xs m) ≡ Some v → IsFloat xs m v
is_float xs m v h = elim (cases_lt m (length xs)) [
  | inl less ↦ (less, h)
  | inr other ↦ absurd (there_by (variable_of (statement_at xs m)) v (ap variable_of (get_or-eq_default xs no_statement other)) h)
]

float_longer : (xs : List Stated) (t : Stated) (m v : ℕ) → IsFloat xs m v → IsFloat (xs ++ t ∷ []) m v
float_longer xs t m v h = (omega (arith, h.0, length-append xs (t ∷ [])), ap variable_of (get_or_append_left xs (t ∷ []) no_statement m h.0) ∙ h.1)

floats_longer : (xs : List Stated) (t : Stated) (ms : List ℕ) (v : ℕ) → Floats xs ms v → Floats (xs ++ t ∷ []) ms v
floats_longer xs t [] v h = h
floats_longer xs t (m ∷ ms) v (inl h) = inl (float_longer xs t m v h)
floats_longer xs t (m ∷ ms) v (inr h) = inr (floats_longer xs t ms v h)

has_longer : (xs : List Stated) (t s : Stated) → Has xs s → Has (xs ++ t ∷ []) s
has_longer xs t s h = All-weaker (IsPaired xs s) (IsPaired (xs ++ t ∷ []) s) (λ p g. (g.0, (floats_longer xs t s.mandatory p.0 g.1.0, floats_longer xs t s.mandatory p.1 g.1.1))) s.pairs h

-- a variable of the `$f` among statements
abbrev Among : List ℕ → ℕ → Type 0
Among [] v = ⊥
Among (n ∷ ns) v = (n ≡ v) ⊎ Among ns v

-- both variables of a pair that is listed are among these
abbrev BothAmong : List ℕ → ℕ × ℕ → Type 0
BothAmong vs q = Among vs q.0 × Among vs q.1

later_among : (u : ℕ) (vs : List ℕ) (qs : List (ℕ × ℕ)) → ByRecursion (BothAmong vs) qs → ByRecursion (BothAmong (u ∷ vs)) qs
later_among u vs [] h = tt
later_among u vs (q ∷ qs) h = ((inr h.0.0, inr h.0.1), later_among u vs qs h.1)

firsts_among : (u : ℕ) (vs ws : List ℕ) → ((v : ℕ) → Among ws v → Among vs v) → ByRecursion (BothAmong (u ∷ vs)) (map (λ v. (u, v)) ws)
firsts_among u vs [] at = tt
firsts_among u vs (w ∷ ws) at = ((inl refl, inr (at w (inl refl))), firsts_among u vs ws (λ v h. at v (inr h)))

kept_among : (p : ℕ → Bool) (vs : List ℕ) (v : ℕ) → Among (filter p vs) v → Among vs v
kept_among p [] v h = h
kept_among p (w ∷ ws) v h = by (p w) h (kept_among p ws v)
  where
    by : (b : Bool) → Among (cond b (w ∷ filter p ws) (filter p ws)) v → (Among (filter p ws) v → Among ws v) → (w ≡ v) ⊎ Among ws v
    by true (inl e) f = inl e
    by true (inr g) f = inr (f g)
    by false g f = inr (f g)

both_parts : (P : ℕ × ℕ → Type 0) (qs rs : List (ℕ × ℕ)) → ByRecursion P qs → ByRecursion P rs → ByRecursion P (qs ++ rs)
both_parts P [] rs h g = g
both_parts P (q ∷ qs) rs h g = (h.0, both_parts P qs rs h.1 g)

listed : (groups : List (List ℕ)) (vs : List ℕ) → ByRecursion (BothAmong vs) (pairs_among groups vs)
unfolding pairs_among
listed groups [] = tt
listed groups (u ∷ vs) =
    both_parts (BothAmong (u ∷ vs)) (pairs_with groups u vs) (pairs_among groups vs)
    (firsts_among u vs (filter (λ v. are_distinct groups u v) vs) (kept_among (λ v. are_distinct groups u v) vs))
    (later_among u vs (pairs_among groups vs) (listed groups vs))

-- a variable that a `$f` among statements has
floats_of : (xs : List Stated) (ms : List ℕ) (v : ℕ) → Among (variables_of xs ms) v → Floats xs ms v
unfolding variables_of
floats_of xs [] v h = h
floats_of xs (m ∷ ms) v h = by (variable_of (statement_at xs m)) refl h (floats_of xs ms v)
  where
    by : (o : Option ℕ) → variable_of (statement_at xs m) ≡ o → Among (cons_option o (filter_map (λ id. variable_of (statement_at xs id)) ms)) v
        → (Among (filter_map (λ id. variable_of (statement_at xs id)) ms) v → Floats xs ms v) → IsFloat xs m v ⊎ Floats xs ms v
    by None e h f = inr (f h)
    by (Some n) e (inl s) f = inl (is_float xs m v (e ∙ ap (λ k. Some k) s))
    by (Some n) e (inr t) f = inr (f t)

assertion_has : (xs : List Stated) (ids : List ℕ) (groups : List (List ℕ)) (k : Kind) (ss : List ℕ) (from to : ℕ) (d : Option Span) → is_hypothesis k ≡ false → Has xs (an_assertion xs ids groups k ss from to d)
assertion_has xs ids groups k ss from to d plain =
    let ms : List ℕ = mandatory_of xs ids ss in
    let vs : List ℕ = variables_of xs ms in
    let Q : ℕ × ℕ → Type 0 = λ q. (is_hypothesis k ≡ false) × (Floats xs ms q.0 × Floats xs ms q.1) in
    All-weaker (BothAmong vs) Q (λ q g. (plain, (floats_of xs ms q.0 g.0, floats_of xs ms q.1 g.1))) (pairs_among groups vs) (All-from_recursion (BothAmong vs) (pairs_among groups vs) (listed groups vs))

with_more : (xs : List Stated) (t : Stated) → All (Has xs) xs → Has xs t → All (Has (xs ++ t ∷ [])) (xs ++ t ∷ [])
with_more xs t all one = All-push (Has (xs ++ t ∷ [])) xs t (λ k d small. has_longer xs t (get_or xs k d) (all k d small)) (has_longer xs t t one)

all_have : (past : List Event) → All (Has (statements past)) (statements past)
unfolding statements
all_have [] = All-nil _
all_have (float l ss d ∷ past) = with_more (statements past) (a_hypothesis kind.Float ss d) (all_have past) (All-nil _)
all_have (essential l ss d ∷ past) = with_more (statements past) (a_hypothesis kind.Essential ss d) (all_have past) (All-nil _)
all_have (asserted l ss d ∷ past) =
    with_more (statements past) (an_assertion (statements past) (active_hypotheses past) (active_distinct past) kind.Axiom ss 0 0 d) (all_have past)
    (assertion_has (statements past) (active_hypotheses past) (active_distinct past) kind.Axiom ss 0 0 d refl)
all_have (theorem l ss from to d ∷ past) =
    with_more (statements past) (an_assertion (statements past) (active_hypotheses past) (active_distinct past) kind.Theorem ss from to d) (all_have past)
    (assertion_has (statements past) (active_hypotheses past) (active_distinct past) kind.Theorem ss from to d refl)
all_have (constant t n ∷ past) = all_have past
all_have (variable t n ∷ past) = all_have past
all_have (distinct ss ∷ past) = all_have past
all_have (opened p ∷ past) = all_have past
all_have (closed ∷ past) = all_have past

paired_at : (bytes : List ℕ) (id : ℕ) → Has (statements_of bytes) (stated_at bytes id)
unfolding statements_of
paired_at bytes id = elim (cases_lt id (length (statements_of bytes))) [
  | inl less ↦ all_have (events_of bytes) id no_statement less
  | inr other ↦ subst (Has (statements_of bytes)) (sym (get_or-eq_default (statements_of bytes) no_statement other)) (All-nil _)
]

-- such a variable is a mandatory one
same_number : (m n : ℕ) → (let o : Option ℕ = Some m in o) ≡ Some n → m ≡ n
same_number m n h = cc

any_of : (xs : List Stated) (ms : List ℕ) (v : ℕ) → Floats xs ms v → list_any (λ n. nat_eq v n) (variables_of xs ms) ≡ true
unfolding variables_of
any_of xs [] v h = absurd h
any_of xs (m ∷ ms) v h = by (variable_of (statement_at xs m)) refl h (any_of xs ms v)
  where
    same_by : (n : ℕ) (b : Bool) → n ≡ v → (nat_eq v n || b) ≡ true
    same_by n b e = let f : nat_eq v n ≡ true = grind (arith, nat_tests) in ap (λ c. c || b) f

    later_by : (c b : Bool) → b ≡ true → (c || b) ≡ true
    later_by true b e = refl
    later_by false b e = e

    by : (o : Option ℕ) → variable_of (statement_at xs m) ≡ o → IsFloat xs m v ⊎ Floats xs ms v → (Floats xs ms v → list_any (λ n. nat_eq v n) (filter_map (λ id. variable_of (statement_at xs id)) ms) ≡ true)
        → list_any (λ n. nat_eq v n) (cons_option o (filter_map (λ id. variable_of (statement_at xs id)) ms)) ≡ true
    by None e (inl h) f = absurd (there_by (variable_of (statement_at xs m)) v e h.1)
    by None e (inr h) f = f h
    by (Some n) e (inl h) f = same_by n (list_any (λ k. nat_eq v k) (filter_map (λ id. variable_of (statement_at xs id)) ms)) (same_number n v (sym e ∙ h.1))
    by (Some n) e (inr h) f = later_by (nat_eq v n) (list_any (λ k. nat_eq v k) (filter_map (λ id. variable_of (statement_at xs id)) ms)) (f h)

variables_are : (bytes : List ℕ) (id : ℕ) → is_hypothesis (stated_at bytes id).kind ≡ false → variables_for bytes id ≡ variables_of (statements_of bytes) (stated_at bytes id).mandatory
unfolding variables_for
variables_are bytes id h = ap (λ b. cond b [] (variables_of (statements_of bytes) (stated_at bytes id).mandatory)) h

-- whether a variable is a mandatory one
abbrev pub is_key : List ℕ → ℕ → ℕ → Bool
is_key bytes id v = list_any (λ n. nat_eq v n) (variables_for bytes id)

-- both variables of each mandatory pair are
pub pairs_among_keys : (bytes : List ℕ) (id : ℕ) → All (λ p. (is_key bytes id p.0 ≡ true) × (is_key bytes id p.1 ≡ true)) (stated_at bytes id).pairs
pairs_among_keys bytes id =
    All-weaker (IsPaired (statements_of bytes) (stated_at bytes id)) (λ p. (is_key bytes id p.0 ≡ true) × (is_key bytes id p.1 ≡ true)) (λ p g. (key g.0 p.0 g.1.0, key g.0 p.1 g.1.1)) (stated_at bytes id).pairs (paired_at bytes id)
  where
    key : is_hypothesis (stated_at bytes id).kind ≡ false → (v : ℕ) → Floats (statements_of bytes) (stated_at bytes id).mandatory v → is_key bytes id v ≡ true
    key plain v h = ap (λ (ns : List ℕ). list_any (λ n. nat_eq v n) ns) (variables_are bytes id plain) ∙ any_of (statements_of bytes) (stated_at bytes id).mandatory v h
