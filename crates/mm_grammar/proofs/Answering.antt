-- What looking back answers of a text.
use Rattle.std.proofs.Common.{◌≡◌, ◌≤◌, ◌<◌, ℕ, Bool, true, false, cond, not, ◌&&◌, ◌||◌, List, [], ◌∷◌, ◌++◌, Option, None, Some, length, position, nat_eq, refl, sym, ◌∙◌, ap, subst, arith, length-append, inl, inr}
use Rattle.std.proofs.lemmas.Bool.{eqb-true, true≢false, false≢true, not-false}
use Rattle.std.proofs.lemmas.List.{nil_from_length}
use Rattle.std.proofs.lemmas.Option.{slice_get_within}
use Rattle.std.specs.List.{list_any}
use Rattle.std.specs.Str.{bytes_eq}
use Rattle.mm_tables.specs.Texts.{with_text}
use Rattle.mm_scope.specs.Events.{Event, constant, variable, float, essential, asserted, theorem, distinct, opened, closed, symbols, labels, open_blocks}
use Rattle.mm_scope.specs.Laws.{IsConstant, IsInScope, IsActive}
use Rattle.mm_scope.specs.Looks.{look_back, known_as}
use Rattle.mm_grammar.specs.Rules.{HasFloat, IsTyped, IsNew, IsAsked, FollowsRules}
use Rattle.mm_grammar.proofs.Known.{not_there}
use Rattle.mm_grammar.proofs.Scoping.{in_scope, active_in_scope, has_float, floated_in_scope, is_constant, constant_in}

-- a text more leaves no fewer
no_fewer : (b : Bool) (ts : List (List ℕ)) (t : List ℕ) → length ts ≤ length (cond b ts (ts ++ t ∷ []))
no_fewer true ts t = omega arith
no_fewer false ts t = omega (arith, length-append ts (t ∷ []))

pub grows : (e : Event) (past : List Event) → length (symbols past) ≤ length (symbols (e ∷ past))
unfolding symbols
grows (constant t n) past = no_fewer (list_any (bytes_eq t) (symbols past)) (symbols past) t
grows (variable t n) past = no_fewer (list_any (bytes_eq t) (symbols past)) (symbols past) t
grows (float l ss d) past = omega arith
grows (essential l ss d) past = omega arith
grows (asserted l ss d) past = omega arith
grows (theorem l ss from to d) past = omega arith
grows (distinct ss) past = omega arith
grows (opened p) past = omega arith
grows closed past = omega arith

-- the number of a declared symbol is one of the symbols'
module _ (n : ℕ) (d : Event) (earlier : List Event) (here : IsAsked earlier d → n < length (symbols (d ∷ earlier))) where
  within : (later : List Event) → FollowsRules (later ++ d ∷ earlier) → n < length (symbols (later ++ d ∷ earlier))
  within [] r = here r.0
  within (e ∷ later) r = omega (arith, within later r.1, grows e (later ++ d ∷ earlier))

pub constant_within : (past : List Event) (n : ℕ) → FollowsRules past → IsConstant past n → n < length (symbols past)
unfolding symbols
constant_within past n r f =
    subst (λ q. n < length (symbols q)) (sym f.whole)
    (within n (constant f.text n) f.earlier (λ a. slice_get_within (with_text (symbols f.earlier) f.text) n f.text a.named) f.later (subst FollowsRules f.whole r))

pub variable_within : (past : List Event) (n : ℕ) → FollowsRules past → IsInScope past n → n < length (symbols past)
unfolding symbols
variable_within past n r f =
    subst (λ q. n < length (symbols q)) (sym f.whole)
    (within n (variable f.text n) f.earlier (λ a. slice_get_within (with_text (symbols f.earlier) f.text) n f.text a.named) f.later (subst FollowsRules f.whole r))

-- of a text that may have a number
module _ (past : List Event) (t : List ℕ) where
  constant_as : (r : Option ℕ) → (known_as past t r).constant ≡ true → IsConstant past (known_as past t r).number
  constant_as None h = absurd (false≢true h)
  constant_as (Some n) h = is_constant past n h

  active_as : (r : Option ℕ) → (known_as past t r).active ≡ true → IsInScope past (known_as past t r).number
  active_as None h = absurd (false≢true h)
  active_as (Some n) h = in_scope past n h

  float_as : (r : Option ℕ) → (known_as past t r).floated ≡ true → HasFloat past (known_as past t r).number
  float_as None h = absurd (false≢true h)
  float_as (Some n) h = has_float past n h

  free_as : (r : Option ℕ) → not ((known_as past t r).constant || (known_as past t r).active) ≡ false → (known_as past t r).floated ≡ false → ¬ HasFloat past (known_as past t r).number
  free_as None live h f = absurd (true≢false live)
  free_as (Some n) live h f = absurd (true≢false (sym (floated_in_scope past n f) ∙ h))

  inactive_as : FollowsRules past → (r : Option ℕ) → (known_as past t r).active ≡ false → (known_as past t r).constant ≡ false → ¬ IsActive past (known_as past t r).number
  inactive_as rules None a c (inl f) = absurd (omega (arith, constant_within past (length (symbols past)) rules f))
  inactive_as rules None a c (inr f) = absurd (omega (arith, variable_within past (length (symbols past)) rules f))
  inactive_as rules (Some n) a c (inl f) = absurd (true≢false (sym (constant_in past n f) ∙ c))
  inactive_as rules (Some n) a c (inr f) = absurd (true≢false (sym (active_in_scope past n f) ∙ a))

  unknown_as : (r : Option ℕ) → position (bytes_eq t) (symbols past) ≡ r → (known_as past t r).known ≡ false → IsNew (symbols past) t
  unknown_as None e h = not_there (bytes_eq t) (symbols past) e
  unknown_as (Some n) e h = absurd (true≢false h)

  pub label_as : (r : Option ℕ) → (known_as past t r).label ≡ list_any (bytes_eq t) (labels past)
  label_as None = refl
  label_as (Some n) = refl

  deep_as : (r : Option ℕ) → (known_as past t r).deep ≡ not (nat_eq (length (open_blocks past)) 0)
  deep_as None = refl
  deep_as (Some n) = refl

  -- so it is of a text
  pub constant_back : (look_back past t).constant ≡ true → IsConstant past (look_back past t).number
  constant_back h = constant_as (position (bytes_eq t) (symbols past)) h

  pub scope_back : not ((look_back past t).constant || (look_back past t).active) ≡ false → (look_back past t).constant ≡ false → IsInScope past (look_back past t).number
  scope_back live h = active_as (position (bytes_eq t) (symbols past)) (by (look_back past t).constant (look_back past t).active (not-false _ live) h)
    where
      by : (c a : Bool) → (c || a) ≡ true → c ≡ false → a ≡ true
      by true a e g = absurd (true≢false g)
      by false a e g = e

  pub free_back : not ((look_back past t).constant || (look_back past t).active) ≡ false → (look_back past t).floated ≡ false → ¬ HasFloat past (look_back past t).number
  free_back live h = free_as (position (bytes_eq t) (symbols past)) live h

  -- a constant, or a variable with its `$f`
  pub typed_back : not ((look_back past t).constant || (look_back past t).active) ≡ false → (not (look_back past t).constant && not (look_back past t).floated) ≡ false
      → IsTyped past (look_back past t).number
  typed_back live h = by (look_back past t).constant (look_back past t).floated refl refl h
    where
      by : (c f : Bool) → (look_back past t).constant ≡ c → (look_back past t).floated ≡ f → (not c && not f) ≡ false → IsTyped past (look_back past t).number
      by true f e g off = inl (constant_back e)
      by false true e g off = inr (scope_back live e, float_as (position (bytes_eq t) (symbols past)) g)
      by false false e g off = absurd (true≢false off)

  pub inactive_back : FollowsRules past → (look_back past t).active ≡ false → (look_back past t).constant ≡ false → ¬ IsActive past (look_back past t).number
  inactive_back rules a c = inactive_as rules (position (bytes_eq t) (symbols past)) a c

  pub unknown_back : (look_back past t).known ≡ false → IsNew (symbols past) t
  unknown_back h = unknown_as (position (bytes_eq t) (symbols past)) refl h

  pub no_label_back : (look_back past t).label ≡ false → IsNew (labels past) t
  no_label_back h = sym (label_as (position (bytes_eq t) (symbols past))) ∙ h

  pub outermost_back : (look_back past t).deep ≡ false → open_blocks past ≡ []
  outermost_back h =
      nil_from_length (open_blocks past) (eqb-true (length (open_blocks past)) 0 (not-false _ (sym (deep_as (position (bytes_eq t) (symbols past))) ∙ h)))

  pub deep_back : (look_back past t).deep ≡ true → 0 < length (open_blocks past)
  deep_back h = some (length (open_blocks past)) (sym (deep_as (position (bytes_eq t) (symbols past))) ∙ h)
    where
      some : (k : ℕ) → not (nat_eq k 0) ≡ true → 0 < k
      some k g = grind (arith, g)

  pub shallow_now : open_blocks past ≡ [] → (look_back past t).deep ≡ false
  shallow_now e = deep_as (position (bytes_eq t) (symbols past)) ∙ ap (λ ps. not (nat_eq (length ps) 0)) e

  pub deep_now : 0 < length (open_blocks past) → (look_back past t).deep ≡ true
  deep_now some = deep_as (position (bytes_eq t) (symbols past)) ∙ no_zero (length (open_blocks past)) some
    where
      no_zero : (k : ℕ) → 0 < k → not (nat_eq k 0) ≡ true
      no_zero k g = grind (arith, g)

  pub label_now : IsNew (labels past) t → (look_back past t).label ≡ false
  label_now new = label_as (position (bytes_eq t) (symbols past)) ∙ new
