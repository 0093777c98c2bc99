-- An assertion that is not refused keeps its pairs of variables apart.
use Rattle.std.proofs.Common.{◌≡◌, ℕ, Bool, true, false, ◌==◌, List, [], ◌∷◌, ◌++◌, All, if◌then◌else◌, refl, cond}
use Rattle.std.specs.List.{flat_map, AllByRecursion as ByRecursion}
use Rattle.std.proofs.lemmas.List.Elements.{All-from_recursion}
use Rattle.mm_tables.specs.Distinct.{are_distinct}
use Rattle.mm_stack.specs.Differing.{variables_in, fault_of, faults_with, faults_between, violations}
use Rattle.mm_stack.specs.Laws.{AreDifferent}
use Rattle.mm_stack.specs.declared.outcome.StackFault.{StackFault}
use Rattle.mm_stack.specs.declared.outcome.StackFault.TheVariants.{SameVariable, MissingDistinct}

-- two lists that are nothing together
none_of_both : {A : Type 0} (s t : List A) → s ++ t ≡ [] → (s ≡ []) × (t ≡ [])
none_of_both [] t h = (refl, h)
none_of_both (x ∷ s) t h = absurd (cc)

distinct_by : (f g : StackFault) (same apart : Bool) → (if same then f ∷ [] else (if apart then [] else g ∷ [])) ≡ [] → apart ≡ true
distinct_by f g true apart h = absurd (cc)
distinct_by f g false true h = refl
distinct_by f g false false h = absurd (cc)

module _ (bytes : List ℕ) (groups : List (List ℕ)) (k : ℕ) where
  one_with : (u : ℕ) (vs : List ℕ) → flat_map (fault_of groups k u) vs ≡ [] → ByRecursion (λ v. are_distinct groups u v ≡ true) vs
  one_with u [] h = tt
  one_with u (v ∷ vs) h =
      let w : (fault_of groups k u v ≡ []) × (flat_map (fault_of groups k u) vs ≡ []) = none_of_both (fault_of groups k u v) (flat_map (fault_of groups k u) vs) h in
      (distinct_by (SameVariable k (record { 0 = u })) (MissingDistinct k (record { 0 = u }) (record { 0 = v })) (u == v) (are_distinct groups u v) w.0, one_with u vs w.1)

  each_with : (t us : List ℕ) → flat_map (faults_with bytes groups k t) us ≡ [] → ByRecursion (λ u. All (λ v. are_distinct groups u v ≡ true) (variables_in bytes t)) us
  each_with t [] h = tt
  each_with t (u ∷ us) h =
      let w : (faults_with bytes groups k t u ≡ []) × (flat_map (faults_with bytes groups k t) us ≡ []) = none_of_both (faults_with bytes groups k t u) (flat_map (faults_with bytes groups k t) us) h in
      (All-from_recursion (λ v. are_distinct groups u v ≡ true) (variables_in bytes t) (one_with u (variables_in bytes t) w.0), each_with t us w.1)

  pairs_with : (value : ℕ → List ℕ) (ps : List (ℕ × ℕ)) → violations bytes groups k value ps ≡ [] → ByRecursion (λ p. AreDifferent bytes groups (value p.0) (value p.1)) ps
  pairs_with value [] h = tt
  pairs_with value (p ∷ ps) h =
      let w : (faults_between bytes groups k (value p.0) (value p.1) ≡ []) × (violations bytes groups k value ps ≡ []) = none_of_both (faults_between bytes groups k (value p.0) (value p.1)) (violations bytes groups k value ps) h in
      (All-from_recursion (λ u. All (λ v. are_distinct groups u v ≡ true) (variables_in bytes (value p.1))) (variables_in bytes (value p.0)) (each_with (value p.1) (variables_in bytes (value p.0)) w.0), pairs_with value ps w.1)

  -- without a violation the values of each pair are apart
  pub pairs_kept : (value : ℕ → List ℕ) (ps : List (ℕ × ℕ)) → violations bytes groups k value ps ≡ [] → All (λ p. AreDifferent bytes groups (value p.0) (value p.1)) ps
  pairs_kept value ps h = All-from_recursion (λ p. AreDifferent bytes groups (value p.0) (value p.1)) ps (pairs_with value ps h)
