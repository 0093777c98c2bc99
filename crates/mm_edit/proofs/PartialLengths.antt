-- A part of a substitution makes no longer strings than the whole.
use Rattle.std.proofs.Common.{◌≡◌, ℕ, ◌≤◌, Bool, true, false, ◌||◌, List, [], ◌∷◌, map, length, nat_lt, None, Some, refl, sym, ap, ◌∙◌, ◌⊎◌, inl, inr, arith, subst, if◌then◌else◌}
use Rattle.std.proofs.lemmas.Bool.{true≢false}
use Rattle.std.specs.List.{list_any, AllByRecursion as ByRecursion}
use Rattle.mm_subst.specs.declared.symbol.WSym.{WSym}
use Rattle.mm_subst.specs.Applied.{most_symbols}
use Rattle.mm_subst.specs.Symbols.{is_same}
use Rattle.mm_subst.specs.Statements.{statement_of}
use Rattle.mm_subst.specs.Substitutions.{Pairs, value_at, value_of, or_itself, applied, with_values}
use Rattle.mm_subst.proofs.Replaced.{applied-nil, length-applied-cons}
use Rattle.mm_plain.specs.declared.plain.Plain.{Plain}
use Rattle.mm_plain.specs.Binding.{bound, HasWorkKeys}
use Rattle.mm_plain.specs.Lengths.{is_long, is_long_step, first_long}
use Rattle.mm_plain.specs.Shape.{steps_of}
use Rattle.mm_plain.proofs.Binding.{steps_of-bound}
use Rattle.mm_plain.proofs.Bounds.{is_long-known, is_long-unknown}
use Rattle.mm_plain.proofs.Equations.{by_trees}
use Rattle.mm_plain.proofs.First.{none-first_from}
use Rattle.mm_plain.proofs.Works.{neither}
use Rattle.mm_edit.proofs.PartialBinding.{IsPart}

-- no value is empty
abbrev pub HasNoEmpty : Pairs → Type 0
HasNoEmpty gamma = ByRecursion (λ p. 1 ≤ length p.1) gamma

value_some : (gamma : Pairs) (x : WSym) → HasNoEmpty gamma → 1 ≤ length (value_of gamma x)
value_some [] x a = omega arith
value_some (p ∷ ps) x a = elim (is_same p.0 x) as (λ b. 1 ≤ length (or_itself x (if b then Some p.1 else value_at ps x))) [ true ↦ a.0 | false ↦ value_some ps x a.1 ]

not_longer : (a b c : ℕ) → a ≤ b → nat_lt c b ≡ false → nat_lt c a ≡ false
not_longer a b c h e = grind arith

or_none : (a b : Bool) → a ≡ false → b ≡ false → (a || b) ≡ false
or_none true b h g = absurd (true≢false h)
or_none false b h g = g

module _ (gamma : Pairs) (works : HasWorkKeys gamma) (some : HasNoEmpty gamma) (beta : Pairs) (part : IsPart gamma beta) where
  one_by : (x : WSym) → (value_of beta x ≡ x ∷ []) ⊎ (value_of beta x ≡ value_of gamma x) → length (value_of beta x) ≤ length (value_of gamma x)
  one_by x (inl e) = omega (arith, ap length e, value_some gamma x some)
  one_by x (inr h) = omega (arith, ap length h)

  string : (s : List WSym) → length (applied beta s) ≤ length (applied gamma s)
  string [] = omega (arith, ap length (applied-nil beta), ap length (applied-nil gamma))
  string (x ∷ xs) = omega (arith, string xs, one_by x (part.each x), length-applied-cons beta x xs, length-applied-cons gamma x xs)

  string_short : (s : List WSym) → is_long (applied gamma s) ≡ false → is_long (applied beta s) ≡ false
  string_short s h = not_longer (length (applied beta s)) (length (applied gamma s)) most_symbols (string s) h

  values_short : (s : Pairs) → list_any (λ p. is_long p.1) (with_values gamma s) ≡ false → list_any (λ p. is_long p.1) (with_values beta s) ≡ false
  values_short [] h = refl
  values_short (p ∷ ps) h =
      let w = neither (is_long (applied gamma p.1)) (list_any (λ q. is_long q.1) (with_values gamma ps)) h in
      or_none (is_long (applied beta p.1)) (list_any (λ q. is_long q.1) (with_values beta ps)) (string_short p.1 w.0) (values_short ps w.1)

  step_short : (bytes : List ℕ) (y : Plain) → is_long_step bytes (bound gamma y) ≡ false → is_long_step bytes (bound beta y) ≡ false
  step_short bytes = by_trees (λ y. is_long_step bytes (bound gamma y) ≡ false → is_long_step bytes (bound beta y) ≡ false)
      (λ t h. is_long-unknown bytes beta t ∙ string_short t (sym (is_long-unknown bytes gamma t) ∙ h))
      (λ t l s kids e h.
      let src : List WSym = applied s (statement_of bytes l) in
      let w = neither (is_long (applied gamma t) || is_long (applied gamma src)) (list_any (λ p. is_long p.1) (with_values gamma s)) (sym (is_long-known bytes gamma works t l s kids) ∙ h) in
      let v = neither (is_long (applied gamma t)) (is_long (applied gamma src)) w.0 in
      is_long-known bytes beta part.works t l s kids
      ∙ or_none (is_long (applied beta t) || is_long (applied beta src)) (list_any (λ p. is_long p.1) (with_values beta s))
      (or_none (is_long (applied beta t)) (is_long (applied beta src)) (string_short t v.0) (string_short src v.1)) (values_short s w.1))

  steps_short : (bytes : List ℕ) (ys : List Plain) → ByRecursion (λ y. is_long_step bytes y ≡ false) (map (bound gamma) ys) → ByRecursion (λ y. is_long_step bytes y ≡ false) (map (bound beta) ys)
  steps_short bytes [] h = tt
  steps_short bytes (y ∷ ys) h = (step_short bytes y h.0, steps_short bytes ys h.1)

  pub part_short : (bytes : List ℕ) (x : Plain) → ByRecursion (λ y. is_long_step bytes y ≡ false) (steps_of (bound gamma x)) → first_long bytes (bound beta x) ≡ None
  part_short bytes x h =
      none-first_from (is_long_step bytes) 1 (steps_of (bound beta x))
      (subst (ByRecursion (λ y. is_long_step bytes y ≡ false)) (sym (steps_of-bound beta x))
      (steps_short bytes (steps_of x) (subst (ByRecursion (λ y. is_long_step bytes y ≡ false)) (steps_of-bound gamma x) h)))
