-- Distinct pairs of strings, by numbers.
use Rattle.std.proofs.Common.{◌≡◌, ℕ, Bool, true, false, cond, not, ◌&&◌, ◌==◌, List, [], ◌∷◌, ◌++◌, Some, All, refl, sym, ap, ◌∙◌, if◌then◌else◌}
use Rattle.std.proofs.lemmas.Bool.{false≢true}
use Rattle.std.proofs.lemmas.List.Elements.{recursion_from_All}
use Rattle.std.specs.List.{flat_map, list_any, AllByRecursion as ByRecursion}
use Rattle.mm_tables.specs.Distinct.{are_distinct, holds_both}
use Rattle.mm_scope.specs.Contents.{is_variable_of}
use Rattle.mm_subst.specs.Substitutions.{Pairs, value_at, value_of, or_itself}
use Rattle.mm_subst.specs.Symbols.{is_same}
use Rattle.mm_subst.specs.declared.symbol.WSym.{WSym}
use Rattle.mm_subst.specs.declared.symbol.WSym.TheVariants.{Const, Var, Work}
use Rattle.mm_stack.specs.Differing.{fault_of, faults_with, faults_between, violations}
use Rattle.mm_stack.specs.Differing as machine
use Rattle.mm_stack.specs.declared.outcome.StackFault.TheVariants.{SameVariable, MissingDistinct}
use Rattle.mm_plain.specs.Valid.{Setting, IsKnownSymbol, IsString}
use Rattle.mm_sound.specs.Apart.{variables_in, AreParted}
use Rattle.mm_sound.specs.Numbers.{numbers}
use Rattle.mm_sound.proofs.Strings.{meaning}

-- a constant is no variable, and a variable is one
abbrev IsOfKind : List ℕ → WSym → Type 0
IsOfKind bytes (Const n) = is_variable_of bytes n ≡ false
IsOfKind bytes (Var n) = is_variable_of bytes n ≡ true
IsOfKind bytes (Work n) = Unit {0}

known_kind : (c : Setting) (x : WSym) → IsKnownSymbol c x → IsOfKind c.bytes x
known_kind c (Const n) h = h.1
known_kind c (Var n) h = h.1
known_kind c (Work n) h = tt

known_kinds : (c : Setting) (s : List WSym) → ByRecursion (IsKnownSymbol c) s → ByRecursion (IsOfKind c.bytes) s
known_kinds c [] h = tt
known_kinds c (x ∷ xs) h = (known_kind c x h.0, known_kinds c xs h.1)

-- a value is of such symbols
value_kinds : (c : Setting) (sigma : Pairs) (x : WSym) → ByRecursion (λ p. IsString c p.1) sigma → IsOfKind c.bytes x → ByRecursion (IsOfKind c.bytes) (value_of sigma x)
value_kinds c [] x strings own = (own, tt)
value_kinds c (p ∷ ps) x strings own = by (is_same p.0 x) (known_kinds c p.1 (recursion_from_All (IsKnownSymbol c) p.1 strings.0.symbols)) (value_kinds c ps x strings.1 own)
  where
    by : (b : Bool) → ByRecursion (IsOfKind c.bytes) p.1 → ByRecursion (IsOfKind c.bytes) (value_of ps x) → ByRecursion (IsOfKind c.bytes) (or_itself x (if b then Some p.1 else value_at ps x))
    by true here later = here
    by false here later = later

-- the variables among its numbers are those of the string
same_variables : (bytes : List ℕ) (s : List WSym) → ByRecursion (IsOfKind bytes) s → machine.variables_in bytes (numbers s) ≡ variables_in s
same_variables bytes [] h = refl
same_variables bytes (Const n ∷ xs) h = ap (λ b. cond b (n ∷ machine.variables_in bytes (numbers xs)) (machine.variables_in bytes (numbers xs))) h.0 ∙ same_variables bytes xs h.1
same_variables bytes (Var n ∷ xs) h = ap (λ b. cond b (n ∷ machine.variables_in bytes (numbers xs)) (machine.variables_in bytes (numbers xs))) h.0 ∙ ap (λ ys. n ∷ ys) (same_variables bytes xs h.1)
same_variables bytes (Work n ∷ xs) h = same_variables bytes xs h.1

no_fault_by : (groups : List (List ℕ)) (k u v : ℕ) (b : Bool) → (u == v) ≡ b → are_distinct groups u v ≡ true → fault_of groups k u v ≡ []
unfolding are_distinct
no_fault_by groups k u v true e h = absurd (false≢true (ap (λ b. not b && list_any (holds_both u v) groups) (sym e) ∙ h))
no_fault_by groups k u v false e h =
    ap (λ b. if b then SameVariable k (record { 0 = u }) ∷ [] else (if are_distinct groups u v then [] else MissingDistinct k (record { 0 = u }) (record { 0 = v }) ∷ [])) e
    ∙ ap (λ b. if b then [] else MissingDistinct k (record { 0 = u }) (record { 0 = v }) ∷ []) h

no_fault : (groups : List (List ℕ)) (k u v : ℕ) → are_distinct groups u v ≡ true → fault_of groups k u v ≡ []
no_fault groups k u v h = no_fault_by groups k u v (u == v) refl h

nothing : {A B : Type 0} (f : A → List B) (P : A → Type 0) → ((x : A) → P x → f x ≡ []) → (xs : List A) → ByRecursion P xs → flat_map f xs ≡ []
nothing f P none [] h = refl
nothing f P none (x ∷ xs) h = ap (λ ys. ys ++ flat_map f xs) (none x h.0) ∙ nothing f P none xs h.1

no_lists : {A B : Type 0} (xs : List A) → flat_map {A = B} (λ x. []) xs ≡ []
no_lists [] = refl
no_lists (x ∷ xs) = no_lists xs

none_between : (groups : List (List ℕ)) (k : ℕ) (us vs : List ℕ) → All (λ u. All (λ v. are_distinct groups u v ≡ true) vs) us
    → flat_map (λ u. flat_map (fault_of groups k u) vs) us ≡ []
none_between groups k us vs all =
    nothing (λ u. flat_map (fault_of groups k u) vs) (λ u. All (λ v. are_distinct groups u v ≡ true) vs)
    (λ u each. nothing (fault_of groups k u) (λ v. are_distinct groups u v ≡ true) (no_fault groups k u) vs (recursion_from_All _ vs each))
    us (recursion_from_All _ us all)

module _ (c : Setting) (sigma : Pairs) (strings : All (λ p. IsString c p.1) sigma) (constant : (n : ℕ) → is_variable_of c.bytes n ≡ false → meaning c.bytes sigma n ≡ n ∷ []) where
  meant_by : (n : ℕ) (b : Bool) → is_variable_of c.bytes n ≡ b → machine.variables_in c.bytes (meaning c.bytes sigma n) ≡ cond b (variables_in (value_of sigma (Var n))) []
  meant_by n true e =
      ap (λ b. machine.variables_in c.bytes (numbers (value_of sigma (if b then Var n else Const n)))) e
      ∙ same_variables c.bytes (value_of sigma (Var n)) (value_kinds c sigma (Var n) (recursion_from_All _ sigma strings) e)
  meant_by n false e = ap (machine.variables_in c.bytes) (constant n e) ∙ ap (λ b. cond b (n ∷ []) []) e

  between_by : (groups : List (List ℕ)) (k : ℕ) (p : ℕ × ℕ) (left right : Bool) → AreParted groups (value_of sigma (Var p.0)) (value_of sigma (Var p.1))
      → flat_map (λ u. flat_map (fault_of groups k u) (cond right (variables_in (value_of sigma (Var p.1))) [])) (cond left (variables_in (value_of sigma (Var p.0))) []) ≡ []
  between_by groups k p true true h = none_between groups k (variables_in (value_of sigma (Var p.0))) (variables_in (value_of sigma (Var p.1))) h
  between_by groups k p true false h = no_lists (variables_in (value_of sigma (Var p.0)))
  between_by groups k p false right h = refl

  none_of_pair : (groups : List (List ℕ)) (k : ℕ) (p : ℕ × ℕ) → AreParted groups (value_of sigma (Var p.0)) (value_of sigma (Var p.1))
      → faults_between c.bytes groups k (meaning c.bytes sigma p.0) (meaning c.bytes sigma p.1) ≡ []
  none_of_pair groups k p h =
      ap (λ us. flat_map (faults_with c.bytes groups k (meaning c.bytes sigma p.1)) us) (meant_by p.0 (is_variable_of c.bytes p.0) refl)
      ∙ ap (λ vs. flat_map (λ u. flat_map (fault_of groups k u) vs) (cond (is_variable_of c.bytes p.0) (variables_in (value_of sigma (Var p.0))) [])) (meant_by p.1 (is_variable_of c.bytes p.1) refl)
      ∙ between_by groups k p (is_variable_of c.bytes p.0) (is_variable_of c.bytes p.1) h

  -- pairs that are kept break no rule
  pub none_violated : (groups : List (List ℕ)) (k : ℕ) (pairs : List (ℕ × ℕ)) → All (λ p. AreParted groups (value_of sigma (Var p.0)) (value_of sigma (Var p.1))) pairs
      → violations c.bytes groups k (meaning c.bytes sigma) pairs ≡ []
  none_violated groups k pairs all =
      nothing (λ p. faults_between c.bytes groups k (meaning c.bytes sigma p.0) (meaning c.bytes sigma p.1)) (λ p. AreParted groups (value_of sigma (Var p.0)) (value_of sigma (Var p.1)))
      (none_of_pair groups k) pairs (recursion_from_All _ pairs all)
