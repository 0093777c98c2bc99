-- The first pending step that has an only unifier, by the numbers of the pending steps.
use Rattle.std.proofs.Common.{suc, ◌≡◌, ℕ, ◌+◌, ◌-◌, ◌≤◌, ◌<◌, Bool, true, false, List, [], ◌∷◌, drop, get_or, length, Option, None, refl, sym, ◌∙◌, ap, subst, arith, if◌then◌else◌}
use Rattle.std.specs.List.{AllByRecursion as ByRecursion}
use Rattle.std.proofs.lemmas.List.Elements.{All-from_recursion}
use Rattle.mm_subst.specs.Substitutions.{Pairs}
use Rattle.mm_unify.specs.declared.listing.Settings.{Settings}
use Rattle.mm_plain.specs.declared.plain.Plain.{Plain}
use Rattle.mm_plain.specs.Numbers.{numbers_from, pending_in}
use Rattle.mm_plain.specs.Shape.{steps_of, step_at, size_of}
use Rattle.mm_plain.specs.Sources.{is_pending}
use Rattle.mm_plain.proofs.Equations.{length-steps_of}
use Rattle.mm_edit.specs.Listed.{listed_at, only_unifier}
use Rattle.mm_edit.specs.Unifying.{first_unifier, or_next, unifier_at, unifier_in}

-- the first unifier of steps with these numbers
abbrev pub firsts : (ℕ → Option Pairs) → List ℕ → Option Pairs
firsts f [] = None
firsts f (k ∷ ks) = or_next (f k) (firsts f ks)

module _ (bytes : List ℕ) (set : Settings) where
  not-pending : (y : Plain) → is_pending bytes y ≡ false → unifier_at bytes set y ≡ None
  not-pending y e = ap (λ b. if b then unifier_in (only_unifier (listed_at bytes set y)) else None) e

  pub is-pending : (y : Plain) → is_pending bytes y ≡ true → unifier_at bytes set y ≡ unifier_in (only_unifier (listed_at bytes set y))
  is-pending y e = ap (λ b. if b then unifier_in (only_unifier (listed_at bytes set y)) else None) e

  first-by : (f : ℕ → Option Pairs) (d : Plain) (n : ℕ) (ys : List Plain) → ((j : ℕ) → j < length ys → f (n + j) ≡ unifier_at bytes set (get_or ys j d))
      → firsts f (numbers_from (is_pending bytes) n ys) ≡ first_unifier bytes set ys
  first-by f d n [] h = refl
  first-by f d n (y ∷ ys) h =
      at (is_pending bytes y) refl (first-by f d (n + 1) ys (λ j l. let z : n + 1 + j ≡ n + suc j = omega arith in ap f z ∙ h (suc j) (omega arith)))
    where
      head : f n ≡ unifier_at bytes set y
      head = let z : n ≡ n + 0 = omega arith in ap f z ∙ h 0 (omega arith)

      at : (b : Bool) → is_pending bytes y ≡ b → firsts f (numbers_from (is_pending bytes) (n + 1) ys) ≡ first_unifier bytes set ys
          → firsts f (if b then n ∷ numbers_from (is_pending bytes) (n + 1) ys else numbers_from (is_pending bytes) (n + 1) ys) ≡ or_next (unifier_at bytes set y) (first_unifier bytes set ys)
      at true e later = ap (λ o. or_next o (firsts f (numbers_from (is_pending bytes) (n + 1) ys))) head ∙ ap (or_next (unifier_at bytes set y)) later
      at false e later = later ∙ sym (ap (λ o. or_next o (first_unifier bytes set ys)) (not-pending y e))

  -- the unifier of a step by its number
  abbrev pub at_number : Plain → ℕ → Option Pairs
  at_number x k = unifier_at bytes set (step_at x k)

-- a number of a step that meets a test, where the first one has the number n
pub record IsAmong (p : Plain → Bool) (d : Plain) (n : ℕ) (ys : List Plain) (k : ℕ) : Type 0 where
  pub from : n ≤ k
  pub below : k < n + length ys
  pub holds : p (get_or ys (k - n) d) ≡ true

later-among : (p : Plain → Bool) (d : Plain) (n : ℕ) (y : Plain) (ys : List Plain) (ks : List ℕ) → ByRecursion (IsAmong p d (n + 1) ys) ks → ByRecursion (IsAmong p d n (y ∷ ys)) ks
later-among p d n y ys [] h = tt
later-among p d n y ys (k ∷ ks) h =
    let from = h.0.from in
    let below = h.0.below in
    let z : k - n ≡ suc (k - (n + 1)) = omega arith in
    (record { from = omega arith; below = omega arith; holds = ap (λ j. p (get_or (y ∷ ys) j d)) z ∙ h.0.holds }, later-among p d n y ys ks h.1)

each-among : (p : Plain → Bool) (d : Plain) (n : ℕ) (ys : List Plain) → ByRecursion (IsAmong p d n ys) (numbers_from p n ys)
each-among p d n [] = tt
each-among p d n (y ∷ ys) = at (p y) refl (later-among p d n y ys (numbers_from p (n + 1) ys) (each-among p d (n + 1) ys))
  where
    at : (b : Bool) → p y ≡ b → ByRecursion (IsAmong p d n (y ∷ ys)) (numbers_from p (n + 1) ys)
        → ByRecursion (IsAmong p d n (y ∷ ys)) (if b then n ∷ numbers_from p (n + 1) ys else numbers_from p (n + 1) ys)
    at true e later = let z : n - n ≡ 0 = omega arith in (record { from = omega arith; below = omega arith; holds = ap (λ j. p (get_or (y ∷ ys) j d)) z ∙ e }, later)
    at false e later = later

-- a pending step
pub record IsPendingAt (bytes : List ℕ) (x : Plain) (k : ℕ) : Type 0 where
  pub exists : (1 ≤ k) × (k ≤ size_of x)
  pub pending : is_pending bytes (step_at x k) ≡ true

pub pending-at : (bytes : List ℕ) (x : Plain) (ks : List ℕ) (i d : ℕ) → ks ≡ pending_in bytes x → i < length ks → IsPendingAt bytes x (get_or ks i d)
pending-at bytes x ks i d e l =
    let all : ByRecursion (IsAmong (is_pending bytes) x 1 (steps_of x)) ks = subst (ByRecursion (IsAmong (is_pending bytes) x 1 (steps_of x))) (sym e) (each-among (is_pending bytes) x 1 (steps_of x)) in
    let b : IsAmong (is_pending bytes) x 1 (steps_of x) (get_or ks i d) = All-from_recursion (IsAmong (is_pending bytes) x 1 (steps_of x)) ks all i d l in
    let from = b.from in
    let below = b.below in
    record { exists = (from, omega (arith, length-steps_of x)); pending = b.holds }

-- the first unifier by the numbers of the pending steps

pub first-pending : (bytes : List ℕ) (set : Settings) (x : Plain) (ks : List ℕ) → ks ≡ pending_in bytes x → firsts (at_number bytes set x) (drop 0 ks) ≡ first_unifier bytes set (steps_of x)
first-pending bytes set x ks e =
    ap (firsts (at_number bytes set x)) e
    ∙ first-by bytes set (at_number bytes set x) x 1 (steps_of x) (λ j l. let z : 1 + j - 1 ≡ j = omega arith in ap (λ i. unifier_at bytes set (get_or (steps_of x) i x)) z)
