-- No variable is mandatory by two `$f`.
use Rattle.std.proofs.Common.{◌≡◌, ℕ, suc, zero, ◌≤◌, ◌<◌, Bool, true, false, cond, ◌&&◌, ◌||◌, List, [], ◌∷◌, ◌++◌, Option, None, Some, length, filter, nat_eq, slice_index, refl, sym, ap, ◌∙◌, subst, arith, inl, inr, ◌⊎◌, length-append}
use Rattle.std.specs.Prelude.{filter_map, slice_get}
use Rattle.std.proofs.lemmas.Bool.{eqb-true, true≢false, false≢true}
use Rattle.std.proofs.lemmas.Option.{none-some}
use Rattle.std.specs.List.{list_any, cons_option}
use Rattle.mm_scope.specs.Events.{Event, constant, variable, float, essential, asserted, theorem, distinct, opened, closed, statements, active_hypotheses, active_distinct, labels}
use Rattle.mm_scope.specs.Laws.{AllDiffer, HasOneFloatEach, VariablesDiffer}
use Rattle.mm_scope.proofs.Floats.{FloatsKnown, floats_it, last_float, active_rises, Low, kept_at, new_at, counted, raised, one_more}
use Rattle.mm_stated.proofs.Rising.{Rises}
use Rattle.mm_stated.specs.Mandatory.{statement_at, mandatory_of, variables_of, is_mandatory, symbols_with, an_assertion}
use Rattle.mm_stated.specs.Stated.{Stated, no_statement, a_hypothesis, variable_of, floated_by, is_same_kind}
use Rattle.mm_stated.specs.declared.statement.Kind.{Kind}
use Rattle.mm_stated.specs.declared.statement.Kind.TheVariants as kind

below : (k low : ℕ) (xs : List ℕ) → k < low → Rises low xs → list_any (nat_eq k) xs ≡ false
below k low [] h r = refl
below k low (x ∷ xs) h r = let a = r.0 in ap (λ b. b || list_any (nat_eq k) xs) (off k x (omega arith)) ∙ below k (suc x) xs (omega arith) r.1
  where
    off : (k x : ℕ) → k < x → nat_eq k x ≡ false
    off k x h = grind arith

place_index : (ss : List ℕ) (v : ℕ) → slice_get ss 1 ≡ Some v → slice_index ss 1 ≡ v
place_index [] v e = absurd (none-some v e)
place_index (x ∷ []) v e = absurd (none-some v e)
place_index (x ∷ y ∷ ss) v e = cc

-- a `$f` of a variable floats it
floats : (k : Kind) (ss : List ℕ) (v : ℕ) → floated_by k ss 1 ≡ Some v → (is_same_kind kind.Float k && nat_eq (slice_index ss 1) v) ≡ true
floats kind.Float ss v e = ap (λ n. nat_eq n v) (place_index ss v e) ∙ itself v
  where
    itself : (n : ℕ) → nat_eq n n ≡ true
    itself n = grind arith
floats kind.Essential ss v e = absurd (none-some v e)
floats kind.Axiom ss v e = absurd (none-some v e)
floats kind.Theorem ss v e = absurd (none-some v e)

-- what is among the values comes from something among the arguments
record IsFrom (g : ℕ → Option ℕ) (xs : List ℕ) (v : ℕ) : Type 0 where
  pub from : ℕ
  pub among : list_any (nat_eq from) xs ≡ true
  pub gives : g from ≡ Some v

later_from : (g : ℕ → Option ℕ) (x v : ℕ) (xs : List ℕ) → IsFrom g xs v → IsFrom g (x ∷ xs) v
later_from g x v xs f = record { from = f.from; among = by (nat_eq f.from x) f.among; gives = f.gives }
  where
    by : (b : Bool) → list_any (nat_eq f.from) xs ≡ true → (b || list_any (nat_eq f.from) xs) ≡ true
    by true e = refl
    by false e = e

here_from : (g : ℕ → Option ℕ) (x v : ℕ) (xs : List ℕ) → g x ≡ Some v → IsFrom g (x ∷ xs) v
here_from g x v xs e = record { from = x; among = ap (λ b. b || list_any (nat_eq x) xs) (itself x); gives = e }
  where
    itself : (n : ℕ) → nat_eq n n ≡ true
    itself n = grind arith

from_kept : (g : ℕ → Option ℕ) (keep : ℕ → Bool) (xs : List ℕ) (v : ℕ) → list_any (nat_eq v) (filter_map g (filter keep xs)) ≡ true → IsFrom g xs v
from_kept g keep [] v e = absurd (false≢true e)
from_kept g keep (x ∷ xs) v e = by (keep x) e (from_kept g keep xs v)
  where
    put : (o : Option ℕ) → g x ≡ o → list_any (nat_eq v) (cons_option o (filter_map g (filter keep xs))) ≡ true → (list_any (nat_eq v) (filter_map g (filter keep xs)) ≡ true → IsFrom g xs v) → IsFrom g (x ∷ xs) v
    put None f e later = later_from g x v xs (later e)
    put (Some w) f e later = at (nat_eq v w) refl e
      where
        at : (b : Bool) → nat_eq v w ≡ b → (b || list_any (nat_eq v) (filter_map g (filter keep xs))) ≡ true → IsFrom g (x ∷ xs) v
        at true same e = here_from g x v xs (f ∙ ap Some (sym (eqb-true v w same)))
        at false same e = later_from g x v xs (later e)

    by : (b : Bool) → list_any (nat_eq v) (filter_map g (cond b (x ∷ filter keep xs) (filter keep xs))) ≡ true → (list_any (nat_eq v) (filter_map g (filter keep xs)) ≡ true → IsFrom g xs v) → IsFrom g (x ∷ xs) v
    by true e later = put (g x) refl e later
    by false e later = later_from g x v xs (later e)

not_among : (b : Bool) → (b ≡ true → ⊥) → b ≡ false
not_among true h = absurd (h refl)
not_among false h = refl

-- rising ids, each variable of which is that of one id alone
differ : (g : ℕ → Option ℕ) (keep : ℕ → Bool) (last : ℕ → ℕ) (low : ℕ) (xs : List ℕ) → Rises low xs → ((k v : ℕ) → list_any (nat_eq k) xs ≡ true → g k ≡ Some v → last v ≡ k) → AllDiffer (filter_map g (filter keep xs))
differ g keep last low [] r one = tt
differ g keep last low (x ∷ xs) r one = by (keep x) (differ g keep last (suc x) xs r.1 (λ k v a e. one k v (among k a) e))
  where
    among : (k : ℕ) → list_any (nat_eq k) xs ≡ true → (nat_eq k x || list_any (nat_eq k) xs) ≡ true
    among k a = go (nat_eq k x)
      where
        go : (b : Bool) → (b || list_any (nat_eq k) xs) ≡ true
        go true = refl
        go false = a

    itself : (n : ℕ) → nat_eq n n ≡ true
    itself n = grind arith

    apart : (v : ℕ) → g x ≡ Some v → list_any (nat_eq v) (filter_map g (filter keep xs)) ≡ true → ⊥
    apart v e h =
        let f = from_kept g keep xs v h in
        let same : x ≡ f.from = sym (one x v (ap (λ b. b || list_any (nat_eq x) xs) (itself x)) e) ∙ one f.from v (among f.from f.among) f.gives in
        true≢false (sym f.among ∙ sym (ap (λ k. list_any (nat_eq k) xs) same) ∙ below x (suc x) xs (omega arith) r.1)

    put : (o : Option ℕ) → g x ≡ o → AllDiffer (filter_map g (filter keep xs)) → AllDiffer (cons_option o (filter_map g (filter keep xs)))
    put None e later = later
    put (Some v) e later = (not_among (list_any (nat_eq v) (filter_map g (filter keep xs))) (apart v e), later)

    by : (b : Bool) → AllDiffer (filter_map g (filter keep xs)) → AllDiffer (filter_map g (cond b (x ∷ filter keep xs) (filter keep xs)))
    by true later = put (g x) refl later
    by false later = later

pub one_float_each : (past : List Event) (ss : List ℕ) → FloatsKnown past → HasOneFloatEach past ss
unfolding variables_of mandatory_of
one_float_each past ss known =
    let r = active_rises zero past in
    differ (λ id. variable_of (statement_at (statements past) id)) (λ id. is_mandatory (symbols_with (statements past) (active_hypotheses past) ss) (statement_at (statements past) id)) (last_float past) 0 (active_hypotheses past) r.0
    (λ k v a e. known k v a (floats (statement_at (statements past) k).kind (statement_at (statements past) k).symbols v e))

-- ids below the new statement find the same statements

variables_still : (past : List Event) (x : Stated) (ids : List ℕ) → Low (length (labels past)) ids → variables_of (statements past ++ x ∷ []) ids ≡ variables_of (statements past) ids
unfolding variables_of
variables_still past x [] low = refl
variables_still past x (k ∷ ids) low =
    ap (λ s. cons_option (variable_of s) (filter_map (λ id. variable_of (statement_at (statements past ++ x ∷ []) id)) ids)) (kept_at past x k low.0)
    ∙ ap (cons_option (variable_of (statement_at (statements past) k))) (variables_still past x ids low.1)

low_filter : (keep : ℕ → Bool) (n : ℕ) (xs : List ℕ) → Low n xs → Low n (filter keep xs)
low_filter keep n [] low = tt
low_filter keep n (x ∷ xs) low = by (keep x) (low_filter keep n xs low.1)
  where
    by : (b : Bool) → Low n (filter keep xs) → Low n (cond b (x ∷ filter keep xs) (filter keep xs))
    by true rest = (low.0, rest)
    by false rest = rest

-- what holds of the mandatory hypotheses of the statement with an id
record IsFine (past : List Event) (id : ℕ) : Type 0 where
  pub low : Low (length (labels past)) (statement_at (statements past) id).mandatory
  pub differ : AllDiffer (variables_of (statements past) (statement_at (statements past) id).mandatory)

abbrev AreFine : List Event → Type 0
AreFine past = (id : ℕ) → IsFine past id

nowhere : (ss : List Stated) (id : ℕ) → length ss ≤ id → statement_at ss id ≡ no_statement
nowhere [] id h = refl
nowhere (s ∷ ss) zero h = absurd (omega arith)
nowhere (s ∷ ss) (suc id) h = nowhere ss id (omega arith)

-- a new statement
more_fine : (past : List Event) (l : List ℕ) (x : Stated) (id : ℕ) → Low (length (labels past)) x.mandatory → AllDiffer (variables_of (statements past) x.mandatory) → AreFine past
    → Low (length (labels past ++ l ∷ [])) (statement_at (statements past ++ x ∷ []) id).mandatory × AllDiffer (variables_of (statements past ++ x ∷ []) (statement_at (statements past ++ x ∷ []) id).mandatory)
unfolding variables_of
more_fine past l x id low differ fine = elim (order id (length (labels past))) [
  | inl earlier ↦
      let e = kept_at past x id earlier in
      let f = fine id in (
        subst (λ s. Low (length (labels past ++ l ∷ [])) s.mandatory) (sym e) (raised (length (labels past)) (length (labels past ++ l ∷ [])) (statement_at (statements past) id).mandatory (one_more (labels past) l) f.low),
        subst (λ s. AllDiffer (variables_of (statements past ++ x ∷ []) s.mandatory)) (sym e) (subst AllDiffer (sym (variables_still past x (statement_at (statements past) id).mandatory f.low)) f.differ),
      )
  | inr (inl same) ↦
      let e : statement_at (statements past ++ x ∷ []) id ≡ x = ap (statement_at (statements past ++ x ∷ [])) same ∙ new_at past x in (
        subst (λ s. Low (length (labels past ++ l ∷ [])) s.mandatory) (sym e) (raised (length (labels past)) (length (labels past ++ l ∷ [])) x.mandatory (one_more (labels past) l) low),
        subst (λ s. AllDiffer (variables_of (statements past ++ x ∷ []) s.mandatory)) (sym e) (subst AllDiffer (sym (variables_still past x x.mandatory low)) differ),
      )
  | inr (inr later) ↦
      let e : statement_at (statements past ++ x ∷ []) id ≡ no_statement = nowhere (statements past ++ x ∷ []) id (omega (arith, length-append (statements past) (x ∷ []), counted past)) in (
        subst (λ s. Low (length (labels past ++ l ∷ [])) s.mandatory) (sym e) tt,
        subst (λ s. AllDiffer (variables_of (statements past ++ x ∷ []) s.mandatory)) (sym e) tt,
      )
]
  where
    order : (m n : ℕ) → (m < n) ⊎ ((m ≡ n) ⊎ (n < m))
    order m n = grind arith

low_needed : (past : List Event) (ss : List ℕ) → Low (length (labels past)) (mandatory_of (statements past) (active_hypotheses past) ss)
unfolding mandatory_of
low_needed past ss = low_filter _ (length (labels past)) (active_hypotheses past) (active_rises zero past).1

all_fine : (past : List Event) → VariablesDiffer past → AreFine past
unfolding statements labels variables_of
all_fine [] h id = record { low = tt; differ = tt }
all_fine (constant t m ∷ past) h id = let f = all_fine past h id in record { low = f.low; differ = f.differ }
all_fine (variable t m ∷ past) h id = let f = all_fine past h id in record { low = f.low; differ = f.differ }
all_fine (distinct ss ∷ past) h id = let f = all_fine past h id in record { low = f.low; differ = f.differ }
all_fine (opened p ∷ past) h id = let f = all_fine past h id in record { low = f.low; differ = f.differ }
all_fine (closed ∷ past) h id = let f = all_fine past h id in record { low = f.low; differ = f.differ }
all_fine (float l ss d ∷ past) h id = let f = more_fine past l (a_hypothesis kind.Float ss d) id tt tt (all_fine past h) in record { low = f.0; differ = f.1 }
all_fine (essential l ss d ∷ past) h id = let f = more_fine past l (a_hypothesis kind.Essential ss d) id tt tt (all_fine past h) in record { low = f.0; differ = f.1 }
all_fine (asserted l ss d ∷ past) h id =
    let f = more_fine past l (an_assertion (statements past) (active_hypotheses past) (active_distinct past) kind.Axiom ss 0 0 d) id (low_needed past ss) h.0 (all_fine past h.1) in
    record { low = f.0; differ = f.1 }
all_fine (theorem l ss from to d ∷ past) h id =
    let f = more_fine past l (an_assertion (statements past) (active_hypotheses past) (active_distinct past) kind.Theorem ss from to d) id (low_needed past ss) h.0 (all_fine past h.1) in
    record { low = f.0; differ = f.1 }

pub differ_at : (past : List Event) → VariablesDiffer past → (id : ℕ) → AllDiffer (variables_of (statements past) (statement_at (statements past) id).mandatory)
differ_at past h id = (all_fine past h id).differ
