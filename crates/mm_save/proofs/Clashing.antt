-- A proof without a clash keeps the variables apart that must differ.
use Rattle.std.proofs.Common.{◌≡◌, ℕ, ◌+◌, Bool, true, false, cond, ◌||◌, nat_eq, List, [], ◌∷◌, ◌++◌, None, slice_get, refl, sym, ap, ◌∙◌, subst}
use Rattle.std.proofs.lemmas.Bool.{false≢true}
use Rattle.std.proofs.lemmas.Bool.Decides.{Decides-eqb}
use Rattle.std.proofs.lemmas.List.Elements.{All-from_recursion, recursion_from_All}
use Rattle.std.specs.List.{All, flat_map, list_any, AllByRecursion as ByRecursion}
use Rattle.mm_tables.specs.Distinct.{are_distinct}
use Rattle.mm_tables.specs.Marked.{with_number}
use Rattle.mm_subst.specs.Substitutions.{Pairs, value_of}
use Rattle.mm_subst.specs.declared.symbol.WSym.{WSym}
use Rattle.mm_subst.specs.declared.symbol.WSym.TheVariants.{Var}
use Rattle.mm_plain.specs.declared.plain.Plain.{Plain}
use Rattle.mm_plain.specs.Shape.{Each, steps_of}
use Rattle.mm_plain.specs.Sources.{label_of, sigma_of}
use Rattle.mm_sound.specs.Apart.{variables_in, AreParted, pairs_by, KeepsPairs, IsApart}
use Rattle.mm_save.specs.Clashes.{each_once, variables_of, clash_of, clashes_with, clashes_between, clashes_under, clashes_at, clashes_from, clashes_in}
use Rattle.mm_save.specs.declared.clash.Clash.{Clash}
use Rattle.mm_save.proofs.Firsts.{none_there}

-- numbers that are found once are found
module _ (P : ℕ → Type 0) where
  in_front : (xs ys : List ℕ) → ByRecursion P (xs ++ ys) → ByRecursion P xs
  in_front [] ys h = tt
  in_front (x ∷ xs) ys h = (h.0, in_front xs ys h.1)

  in_back : (xs ys : List ℕ) → ByRecursion P (xs ++ ys) → ByRecursion P ys
  in_back [] ys h = h
  in_back (x ∷ xs) ys h = in_back xs ys h.1

  one_among : (xs : List ℕ) (n : ℕ) → list_any (λ m. nat_eq n m) xs ≡ true → ByRecursion P xs → P n
  one_among [] n e h = absurd (false≢true e)
  one_among (x ∷ xs) n e h = by (nat_eq n x) refl e (λ g. one_among xs n g h.1)
    where
      by : (b : Bool) → nat_eq n x ≡ b → (b || list_any (λ m. nat_eq n m) xs) ≡ true → (list_any (λ m. nat_eq n m) xs ≡ true → P n) → P n
      by true f g later = subst P (sym ((Decides-eqb n x).0 f)) h.0
      by false f g later = later g

  -- what is with a number has the number, and the rest
  with_it : (found : List ℕ) (n : ℕ) → ByRecursion P (with_number found n) → P n × ByRecursion P found
  with_it found n h = by (list_any (λ m. nat_eq n m) found) refl h
    where
      by : (b : Bool) → list_any (λ m. nat_eq n m) found ≡ b → ByRecursion P (cond b found (found ++ n ∷ [])) → P n × ByRecursion P found
      by true e g = (one_among found n e g, g)
      by false e g = ((in_back found (n ∷ []) g).0, in_front found (n ∷ []) g)

  each_found : (found ns : List ℕ) → ByRecursion P (each_once found ns) → ByRecursion P found × ByRecursion P ns
  each_found found [] h = (h, tt)
  each_found found (n ∷ ns) h =
      let rest = each_found (with_number found n) ns h in
      let one = with_it found n rest.0 in
      (one.1, (one.0, rest.1))

  -- so a fact of each variable of a string, taken once, is one of all
  all_variables : (s : List WSym) → ByRecursion P (variables_of s) → ByRecursion P (variables_in s)
  all_variables s h = (each_found [] (variables_in s) h).1

  -- and back
  with_more : (found : List ℕ) (n : ℕ) → ByRecursion P found → P n → ByRecursion P (with_number found n)
  with_more found n h one = by (list_any (λ m. nat_eq n m) found)
    where
      behind : (xs : List ℕ) → ByRecursion P xs → ByRecursion P (xs ++ n ∷ [])
      behind [] g = (one, tt)
      behind (x ∷ xs) g = (g.0, behind xs g.1)

      by : (b : Bool) → ByRecursion P (cond b found (found ++ n ∷ []))
      by true = h
      by false = behind found h

  each_kept : (found ns : List ℕ) → ByRecursion P found → ByRecursion P ns → ByRecursion P (each_once found ns)
  each_kept found [] h g = h
  each_kept found (n ∷ ns) h g = each_kept (with_number found n) ns (with_more found n h g.0) g.1

  once_variables : (s : List WSym) → ByRecursion P (variables_in s) → ByRecursion P (variables_of s)
  once_variables s h = each_kept [] (variables_in s) tt h

module _ {B : Type 0} where
  pub both_none : (xs ys : List B) → xs ++ ys ≡ [] → (xs ≡ []) × (ys ≡ [])
  both_none [] ys h = (refl, h)
  both_none (x ∷ xs) ys h = cc

module _ {A B : Type 0} where
  -- where no item has a clash
  none_of_each : (f : A → List B) (P : A → Type 0) → ((x : A) → f x ≡ [] → P x) → (xs : List A) → flat_map f xs ≡ [] → ByRecursion P xs
  none_of_each f P at [] h = tt
  none_of_each f P at (x ∷ xs) h = let w = both_none (f x) (flat_map f xs) h in (at x w.0, none_of_each f P at xs w.1)

  each_of_none : (f : A → List B) (P : A → Type 0) → ((x : A) → P x → f x ≡ []) → (xs : List A) → ByRecursion P xs → flat_map f xs ≡ []
  each_of_none f P at [] h = refl
  each_of_none f P at (x ∷ xs) h = ap (λ ys. ys ++ flat_map f xs) (at x h.0) ∙ each_of_none f P at xs h.1

module _ (groups : List (List ℕ)) (k : ℕ) where
  distinct_by : (u v : ℕ) (b : Bool) (c : Clash) → cond b [] (c ∷ []) ≡ [] → b ≡ true
  distinct_by u v true c h = refl
  distinct_by u v false c h = cc

  no_clash : (u v : ℕ) → clash_of groups k u v ≡ [] → are_distinct groups u v ≡ true
  no_clash u v h = distinct_by u v (are_distinct groups u v) (record { step = k; first = record { 0 = u }; second = record { 0 = v } }) h

  are_apart : (s t : List WSym) → clashes_between groups k (variables_of s) (variables_of t) ≡ [] → AreParted groups s t
  are_apart s t h =
      let Far : ℕ → ℕ → Type 0 = λ u v. are_distinct groups u v ≡ true in
      All-from_recursion (λ u. All (Far u) (variables_in t)) (variables_in s) (all_variables (λ u. All (Far u) (variables_in t)) s
      (none_of_each (clashes_with groups k (variables_of t)) (λ u. All (Far u) (variables_in t))
      (λ u e. All-from_recursion (Far u) (variables_in t) (all_variables (Far u) t (none_of_each (clash_of groups k u) (Far u) (no_clash u) (variables_of t) e)))
      (variables_of s) h))

  no_clash_between : (s t : List WSym) → AreParted groups s t → clashes_between groups k (variables_of s) (variables_of t) ≡ []
  no_clash_between s t h =
      let Far : ℕ → ℕ → Type 0 = λ u v. are_distinct groups u v ≡ true in
      each_of_none (clashes_with groups k (variables_of t)) (λ u. All (Far u) (variables_in t))
      (λ u e. each_of_none (clash_of groups k u) (Far u) (λ v f. ap (λ b. cond b [] (record { step = k; first = record { 0 = u }; second = record { 0 = v } } ∷ [])) f)
      (variables_of t) (once_variables (Far u) t (recursion_from_All (Far u) (variables_in t) e)))
      (variables_of s) (once_variables (λ u. All (Far u) (variables_in t)) s (recursion_from_All (λ u. All (Far u) (variables_in t)) (variables_in s) h))

  abbrev Apart : Pairs → ℕ × ℕ → Type 0
  Apart sigma p = AreParted groups (value_of sigma (Var p.0)) (value_of sigma (Var p.1))

  step_apart : (bytes : List ℕ) (x : Plain) → clashes_at bytes groups k x ≡ [] → KeepsPairs bytes groups x
  step_apart bytes x h =
      All-from_recursion (Apart (sigma_of x)) (pairs_by bytes (label_of x))
      (none_of_each (clashes_under groups k (sigma_of x)) (Apart (sigma_of x)) (λ p. are_apart (value_of (sigma_of x) (Var p.0)) (value_of (sigma_of x) (Var p.1))) (pairs_by bytes (label_of x)) h)

  no_clash_at : (bytes : List ℕ) (x : Plain) → KeepsPairs bytes groups x → clashes_at bytes groups k x ≡ []
  no_clash_at bytes x h =
      each_of_none (clashes_under groups k (sigma_of x)) (Apart (sigma_of x)) (λ p. no_clash_between (value_of (sigma_of x) (Var p.0)) (value_of (sigma_of x) (Var p.1))) (pairs_by bytes (label_of x))
      (recursion_from_All (Apart (sigma_of x)) (pairs_by bytes (label_of x)) h)

each_apart : (bytes : List ℕ) (groups : List (List ℕ)) (k : ℕ) (xs : List Plain) → clashes_from bytes groups k xs ≡ [] → Each (KeepsPairs bytes groups) xs
each_apart bytes groups k [] h = tt
each_apart bytes groups k (x ∷ xs) h =
    let w = both_none (clashes_at bytes groups k x) (clashes_from bytes groups (k + 1) xs) h in
    (step_apart groups k bytes x w.0, each_apart bytes groups (k + 1) xs w.1)

none_from : (bytes : List ℕ) (groups : List (List ℕ)) (k : ℕ) (xs : List Plain) → Each (KeepsPairs bytes groups) xs → clashes_from bytes groups k xs ≡ []
none_from bytes groups k [] e = refl
none_from bytes groups k (x ∷ xs) e = ap (λ ys. ys ++ clashes_from bytes groups (k + 1) xs) (no_clash_at groups k bytes x e.0) ∙ none_from bytes groups (k + 1) xs e.1

-- a proof without a first clash keeps its variables apart
pub apart_by : (bytes : List ℕ) (groups : List (List ℕ)) (x : Plain) → slice_get (clashes_in bytes groups x) 0 ≡ None → IsApart bytes groups x
unfolding clashes_in
apart_by bytes groups x h = each_apart bytes groups 1 (steps_of x) (none_there (clashes_in bytes groups x) h)

-- and one that keeps them has no clash
pub no_clash_in : (bytes : List ℕ) (groups : List (List ℕ)) (x : Plain) → IsApart bytes groups x → clashes_in bytes groups x ≡ []
unfolding clashes_in
no_clash_in bytes groups x e = none_from bytes groups 1 (steps_of x) e
