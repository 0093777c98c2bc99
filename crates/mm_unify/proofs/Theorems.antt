-- The theorems of a listing.
use Rattle.std.proofs.Common.{ℕ, ◌≡◌, ◌≢◌, ◌<◌, List, [], ◌∷◌, ◌++◌, false, map, length, get_or, refl, sym, ap, ◌∙◌, subst, inl, inr, ◌⊎◌, arith, Option, Some, None, IfNone, suc}
use Rattle.std.specs.List.{All, AllByRecursion}
use Rattle.std.proofs.lemmas.List.Elements.{recursion_from_All, All-from_recursion}
use Rattle.mm_subst.specs.declared.symbol.WSym.{WSym}
use Rattle.mm_subst.specs.declared.symbol.WSym.TheVariants.{Work}
use Rattle.mm_subst.specs.declared.brackets.Brackets.{Brackets}
use Rattle.mm_unify.specs.declared.listing.Ended.TheVariants.{Whole, Trials}
use Rattle.mm_subst.specs.Symbols.{is_same, has_work}
use Rattle.mm_subst.specs.Substitutions.{Pairs, value_at, value_of, applied, HasDistinctKeys}
use Rattle.mm_unify.specs.Unifying.{IsComplete, restricted}
use Rattle.mm_unify.specs.Search.{root, roots}
use Rattle.mm_unify.specs.Variables.{numbers}
use Rattle.mm_unify.specs.Forbidden.{Forbidden, forbidden_by}
use Rattle.mm_unify.specs.Listings.{limit, answer, HasKeys, HasBalanced}
use Rattle.mm_unify.proofs.Opened.{fair_by, off_by}
use Rattle.mm_unify.proofs.Sound.{keys, Solves, sound}
use Rattle.mm_unify.proofs.Once.{complete, has_all, Rising, rising_numbers, above_has, not_here}
use Rattle.mm_unify.proofs.Mapping.{value_first, value_later}
use Rattle.mm_subst.proofs.Keys.{is_same-itself}
use Rattle.mm_unify.proofs.Balanced.{SomeOf, SameOn, balanced_listed}
use Rattle.mm_unify.proofs.Weight.{plain_from_test, sided_first, side_of, enough_at_first, enough_visits}

each_sound : (a b : List WSym) (us : List Pairs) → AllByRecursion (Solves a b) us → AllByRecursion (λ u. applied u a ≡ applied u b) us
each_sound a b [] s = tt
each_sound a b (u ∷ us) s = (s.0.equal, each_sound a b us s.1)

pub answer_sound : (rule : Forbidden) (trials : Option ℕ) (a b : List WSym) → All (λ u. applied u a ≡ applied u b) (answer rule trials a b).found
answer_sound rule trials a b =
    All-from_recursion (λ u. applied u a ≡ applied u b) (answer rule trials a b).found (each_sound a b (answer rule trials a b).found (sound rule a b (limit trials a b)))

each_keys : (a b : List WSym) (us : List Pairs) → AllByRecursion (Solves a b) us → AllByRecursion (HasKeys a b) us
each_keys a b [] s = tt
each_keys a b (u ∷ us) s = (s.0.keys_are, each_keys a b us s.1)

pub answer_keys : (rule : Forbidden) (trials : Option ℕ) (a b : List WSym) → All (HasKeys a b) (answer rule trials a b).found
answer_keys rule trials a b =
    All-from_recursion (HasKeys a b) (answer rule trials a b).found (each_keys a b (answer rule trials a b).found (sound rule a b (limit trials a b)))

-- rising keys are distinct
not_among : (m : ℕ) (u : Pairs) (ms : List ℕ) → keys u ≡ map Work ms → AllByRecursion (λ k. m < k) ms → value_at u (Work m) ≡ None
not_among m [] ms e r = refl
not_among m (q ∷ u) [] e r = cc
not_among m (q ∷ u) (k ∷ ms) e r =
    let a : q.0 ≡ Work k = cc in
    let b : keys u ≡ map Work ms = cc in
    let f : is_same q.0 (Work m) ≡ false = ap (λ (c : WSym). is_same c (Work m)) a ∙ other m k r.0 in
    rw f (not_among m u ms b r.1)
  where
    other : (m k : ℕ) → m < k → is_same (Work k) (Work m) ≡ false
    other m k h = grind (arith)

pub distinct_rising : (u : Pairs) (ms : List ℕ) → keys u ≡ map Work ms → Rising ms → HasDistinctKeys u
distinct_rising [] ms e r = tt
distinct_rising (q ∷ u) [] e r = cc
distinct_rising (q ∷ u) (m ∷ ms) e r =
    let a : q.0 ≡ Work m = cc in
    let b : keys u ≡ map Work ms = cc in
    (subst (λ (c : WSym). value_at u c ≡ None) (sym a) (not_among m u ms b r.0), distinct_rising u ms b r.1)

each_distinct : (a b : List WSym) (us : List Pairs) → AllByRecursion (Solves a b) us → AllByRecursion HasDistinctKeys us
each_distinct a b [] s = tt
each_distinct a b (u ∷ us) s = (distinct_rising u (numbers (a ++ b)) s.0.keys_are (rising_numbers (a ++ b)), each_distinct a b us s.1)

pub answer_distinct : (rule : Forbidden) (trials : Option ℕ) (a b : List WSym) → All HasDistinctKeys (answer rule trials a b).found
answer_distinct rule trials a b =
    All-from_recursion HasDistinctKeys (answer rule trials a b).found (each_distinct a b (answer rule trials a b).found (sound rule a b (limit trials a b)))

pub answer_complete : (o : Option Brackets) (trials : Option ℕ) (a b : List WSym) → o ≡ None → (answer (forbidden_by o) trials a b).ended ≡ Whole → IsComplete a b (answer (forbidden_by o) trials a b).found
answer_complete o trials a b off whole theta u = complete (forbidden_by o) (off_by o off) theta a b (limit trials a b) whole u

-- a listed substitution is the restricted one
pub same_restricted : (theta u : Pairs) (ms : List ℕ) → keys u ≡ map Work ms → Rising ms → SameOn theta ms u → u ≡ restricted theta ms
same_restricted theta [] [] e r h = refl
same_restricted theta [] (m ∷ ms) e r h = cc
same_restricted theta (q ∷ u) [] e r h = cc
same_restricted theta (q ∷ u) (m ∷ ms) e r h =
    let a : q.0 ≡ Work m = cc in
    let b : keys u ≡ map Work ms = cc in
    let own : value_of (q ∷ u) (Work m) ≡ q.1 = value_first q u (Work m) (ap (λ (c : WSym). is_same c (Work m)) a ∙ is_same-itself (Work m)) in
    let k : q.1 ≡ value_of theta (Work m) = sym own ∙ h m (inl refl) in
    let i = same_restricted theta u ms b r.1 (λ n j.
    let o : value_of (q ∷ u) (Work n) ≡ value_of u (Work n) = value_later q u (Work n) (ap (λ (c : WSym). is_same c (Work n)) a ∙ not_here m n (above_has m n ms r.0 j)) in
    sym o ∙ h n (inr j)) in
    let keyed : WSym → WSym × List WSym = λ c. (c, q.1) in
    let valued : List WSym → WSym × List WSym = λ w. (Work m, w) in
    let pair : q ≡ (Work m, value_of theta (Work m)) = ap keyed a ∙ ap valued k in
    ap (λ t. t ∷ u) pair ∙ ap (λ t. (Work m, value_of theta (Work m)) ∷ t) i

some_listed : (theta : Pairs) (a b : List WSym) (us : List Pairs) → AllByRecursion (Solves a b) us → SomeOf (SameOn theta (numbers (a ++ b))) us →
    (k : ℕ) × (k < length us) × ((d : Pairs) → get_or us k d ≡ restricted theta (numbers (a ++ b)))
some_listed theta a b [] s h = absurd h
some_listed theta a b (u ∷ us) s (inl h) = (0, omega arith, (λ d. same_restricted theta u (numbers (a ++ b)) s.0.keys_are (rising_numbers (a ++ b)) h))
some_listed theta a b (u ∷ us) s (inr h) = let r = some_listed theta a b us s.1 h in let l = r.1 in (suc r.0, omega arith, r.2)

pub answer_balanced : (o : Option Brackets) (trials : Option ℕ) (a b : List WSym) → (answer (forbidden_by o) trials a b).ended ≡ Whole → (has_work a ≡ false) ⊎ (has_work b ≡ false) →
    HasBalanced (forbidden_by o) a b (answer (forbidden_by o) trials a b).found
answer_balanced o trials a b whole side theta u bal =
    let s = balanced_listed (forbidden_by o) (fair_by o) theta a b
    (elim side [ inl p ↦ inl (plain_from_test a p) | inr p ↦ inr (plain_from_test b p) ])
    (has_all (λ n. (forbidden_by o).at_end (value_of theta (Work n)) ≡ false) (numbers (a ++ b)) (recursion_from_All (λ n. (forbidden_by o).at_end (value_of theta (Work n)) ≡ false) (numbers (a ++ b)) bal))
    (limit trials a b) u whole in
    let i = some_listed theta a b (answer (forbidden_by o) trials a b).found (sound (forbidden_by o) a b (limit trials a b)) s in
    (i.0, i.1, i.2 (restricted theta (numbers (a ++ b))))

-- without a limit the search doesn't end by its trials
pub answer_unlimited : (rule : Forbidden) (a b : List WSym) → (has_work a ≡ false) ⊎ (has_work b ≡ false) → (answer rule None a b).ended ≢ Trials
answer_unlimited rule a b side =
    enough_visits rule (side_of (root a b)) (limit None a b) (roots a b) (sided_first (root a b) side, tt) (enough_at_first a b (root a b).values)

pub never_by_trials : (rule : Forbidden) (trials : Option ℕ) (a b : List WSym) → IfNone trials ((has_work a ≡ false) ⊎ (has_work b ≡ false)) → IfNone trials ((answer rule trials a b).ended ≢ Trials)
never_by_trials rule None a b side = answer_unlimited rule a b side
never_by_trials rule (Some n) a b side = tt
