-- How many steps are unknown, and how many are pending.
use Rattle.std.proofs.Common.{◌≡◌, ℕ, ◌+◌, ◌≤◌, Bool, true, false, List, [], ◌∷◌, map, length, count_by, Option, if◌then◌else◌, refl, sym, ◌∙◌, ap, arith}
use Rattle.std.specs.Option.{is_none}
use Rattle.std.proofs.lemmas.List.Sums.{sum_by-cons}
use Rattle.mm_plain.specs.declared.plain.Plain.{Plain}
use Rattle.mm_plain.specs.Numbers.{labels_in, numbers_from, unknowns_among}
use Rattle.mm_plain.specs.Shape.{steps_of}
use Rattle.mm_plain.specs.Sources.{label_of}
use Rattle.mm_edit.specs.Counts.{unknown_count}

abbrev one_for : Bool → ℕ
one_for b = if b then 1 else 0

-- as many numbers as steps that meet the test
pub numbers_counted : {A : Type 0} (p : A → Bool) (n : ℕ) (xs : List A) → length (numbers_from p n xs) ≡ count_by p xs
numbers_counted p n [] = refl
numbers_counted p n (x ∷ xs) = at (p x) refl (numbers_counted p (n + 1) xs) where
  at : (b : Bool) → p x ≡ b → length (numbers_from p (n + 1) xs) ≡ count_by p xs
      → length (if b then (n ∷ numbers_from p (n + 1) xs) else numbers_from p (n + 1) xs) ≡ count_by p (x ∷ xs)
  at true e ih = let d = ap one_for e in omega (arith, sum_by-cons (λ y. one_for (p y)) x xs, d, ih)
  at false e ih = let d = ap one_for e in omega (arith, sum_by-cons (λ y. one_for (p y)) x xs, d, ih)

-- not more than steps
pub numbers_few : {A : Type 0} (p : A → Bool) (n : ℕ) (xs : List A) → length (numbers_from p n xs) ≤ length xs
numbers_few p n [] = omega arith
numbers_few p n (x ∷ xs) = at (p x) (numbers_few p (n + 1) xs) where
  at : (b : Bool) → length (numbers_from p (n + 1) xs) ≤ length xs → length (if b then (n ∷ numbers_from p (n + 1) xs) else numbers_from p (n + 1) xs) ≤ length (x ∷ xs)
  at true ih = omega arith
  at false ih = omega arith

unknowns_by : (xs : List Plain) → unknowns_among (map label_of xs) ≡ count_by (λ x. is_none (label_of x)) xs
unknowns_by [] = refl
unknowns_by (x ∷ xs) =
    sum_by-cons (λ (o : Option ℕ). one_for (is_none o)) (label_of x) (map label_of xs)
    ∙ ap (λ (n : ℕ). one_for (is_none (label_of x)) + n) (unknowns_by xs)
    ∙ sym (sum_by-cons (λ (y : Plain). one_for (is_none (label_of y))) x xs)

pub unknowns_counted : (x : Plain) → unknowns_among (labels_in x) ≡ unknown_count x
unfolding unknown_count
unknowns_counted x = unknowns_by (steps_of x)
