-- Lemmas on seats among children.
use Rattle.std.proofs.Common.{suc, zero, ◌≡◌, ℕ, ◌+◌, ◌-◌, ◌≤◌, ◌<◌, List, [], ◌∷◌, length, get_or, set, sym, ◌∙◌, ap, subst, inl, inr, add-one, arith}
use Rattle.std.specs.List.{flat_map, sum_by}
use Rattle.std.proofs.lemmas.Grind.{common_steps}
use Rattle.std.proofs.lemmas.Bool.{cases_lt}
use Rattle.std.proofs.lemmas.List.Sums.{sum_by-cons}
use Rattle.std.proofs.lemmas.List.Concat.{flat_map-cons}
use Rattle.std.proofs.lemmas.List.{get_or_append_left, get_or-append_right, get_or_default}
use Rattle.mm_subst.specs.declared.symbol.WSym.{WSym}
use Rattle.mm_subst.specs.Substitutions.{Pairs}
use Rattle.mm_plain.specs.declared.plain.Plain.{Plain}
use Rattle.mm_plain.specs.Shape.{unknown, known, size_of, steps_of, step_at, put, put_kids, seat}
use Rattle.mm_plain.proofs.Equations.{size_of-known, size_of-unknown, steps_of-known, steps_of-unknown, put-known, put-unknown, length-steps_of, length-flat_map-steps_of}

-- a step beyond all children has no seat
pub seat-past : (xs : List Plain) (k : ℕ) → sum_by size_of xs < k → seat xs k ≡ (length xs, k - sum_by size_of xs)
seat-past [] k h = grind arith
seat-past (x ∷ xs) k h = let e = sum_by-cons size_of x xs in let ih = seat-past xs (k - size_of x) (omega arith) in grind (arith, e, ih)

-- a step within them has one
pub record IsSeat (xs : List Plain) (k i left : ℕ) (d : Plain) : Type 0 where
  pub within : i < length xs
  pub first : 1 ≤ left
  pub last : left ≤ size_of (get_or xs i d)
  pub step : (e : Plain) → get_or (flat_map steps_of xs) (k - 1) e ≡ get_or (steps_of (get_or xs i d)) (left - 1) (get_or xs i d)
  pub puts : (new : Plain) → put_kids xs k new ≡ set xs i (put (get_or xs i d) left new)

pub seat-here : (x : Plain) (xs : List Plain) (k : ℕ) → k ≤ size_of x → seat (x ∷ xs) k ≡ (0, k)
seat-here x xs k h = grind arith

pub seat-later : (x : Plain) (xs : List Plain) (k : ℕ) → size_of x < k → seat (x ∷ xs) k ≡ ((seat xs (k - size_of x)).0 + 1, (seat xs (k - size_of x)).1)
seat-later x xs k h = grind arith

pub put_kids-here : (x : Plain) (xs : List Plain) (k : ℕ) (new : Plain) → k ≤ size_of x → put_kids (x ∷ xs) k new ≡ put x k new ∷ xs
put_kids-here x xs k new h = grind arith

pub put_kids-later : (x : Plain) (xs : List Plain) (k : ℕ) (new : Plain) → size_of x < k → put_kids (x ∷ xs) k new ≡ x ∷ put_kids xs (k - size_of x) new
put_kids-later x xs k new h = grind arith

in-here : (x : Plain) (xs : List Plain) (k : ℕ) (d : Plain) → 1 ≤ k → k ≤ size_of x → IsSeat (x ∷ xs) k 0 k d
in-here x xs k d h g = record {
  within = omega arith;
  first = h;
  last = g;
  step = λ e. rw (flat_map-cons steps_of x xs) (get_or_append_left (steps_of x) (flat_map steps_of xs) e (k - 1) (omega (arith, length-steps_of x)) ∙ get_or_default (steps_of x) (k - 1) e x (omega (arith, length-steps_of x)));
  puts = λ new. put_kids-here x xs k new g;
}

in-later : (x : Plain) (xs : List Plain) (k i left : ℕ) (d : Plain) → size_of x < k → IsSeat xs (k - size_of x) i left d → IsSeat (x ∷ xs) k (i + 1) left d
in-later x xs k i left d h s = record {
  within = let w = s.within in grind arith;
  first = s.first;
  last = let w = s.last in grind arith;
  step = λ e. let w = s.step e in
      rw (flat_map-cons steps_of x xs, add-one) (get_or-append_right (steps_of x) (flat_map steps_of xs) (size_of x) (k - 1) e (length-steps_of x) (omega arith)
      ∙ ap (λ (n : ℕ). get_or (flat_map steps_of xs) n e) (omega arith) ∙ w);
  puts = λ new. let w = s.puts new in put_kids-later x xs k new h ∙ rw add-one (ap (λ (n : List Plain). x ∷ n) w);
}

pub seat-in : (xs : List Plain) (k : ℕ) (d : Plain) → 1 ≤ k → k ≤ sum_by size_of xs → IsSeat xs k (seat xs k).0 (seat xs k).1 d
seat-in [] k d h g = absurd (omega arith)
seat-in (x ∷ xs) k d h g = elim (cases_lt (size_of x) k) [
  | inr here ↦ subst (λ (p : ℕ × ℕ). IsSeat (x ∷ xs) k p.0 p.1 d) (sym (seat-here x xs k here)) (in-here x xs k d h here)
  | inl later ↦ subst (λ (p : ℕ × ℕ). IsSeat (x ∷ xs) k p.0 p.1 d) (sym (seat-later x xs k later))
      (in-later x xs k _ _ d later (seat-in xs (k - size_of x) d (omega arith) (omega (arith, sum_by-cons size_of x xs))))
]

-- the step of a tree, by the seat among its children
pub at-kid : (t : List WSym) (l : ℕ) (s : Pairs) (xs : List Plain) (k i left : ℕ) (d : Plain) → IsSeat xs k i left d → 1 ≤ k → k ≤ sum_by size_of xs
    → step_at (known t l s xs) k ≡ step_at (get_or xs i d) left
at-kid t l s xs k i left d h f g =
    ap (λ (n : List Plain). get_or n (k - 1) (known t l s xs)) (steps_of-known t l s xs)
    ∙ get_or_append_left (flat_map steps_of xs) (known t l s xs ∷ []) (known t l s xs) (k - 1) (omega (arith, length-flat_map-steps_of xs))
    ∙ h.step (known t l s xs)

pub at-root : (t : List WSym) (l : ℕ) (s : Pairs) (xs : List Plain) (k : ℕ) → k ≡ sum_by size_of xs + 1 → step_at (known t l s xs) k ≡ known t l s xs
at-root t l s xs k h =
    ap (λ (n : List Plain). get_or n (k - 1) (known t l s xs)) (steps_of-known t l s xs)
    ∙ get_or-append_right (flat_map steps_of xs) (known t l s xs ∷ []) (sum_by size_of xs) (k - 1) (known t l s xs) (length-flat_map-steps_of xs) (omega arith)
    ∙ (let z : k - 1 - sum_by size_of xs ≡ 0 = omega arith in ap (λ (n : ℕ). get_or (known t l s xs ∷ []) n (known t l s xs)) z)

pub at-leaf : (t : List WSym) (k : ℕ) → k ≡ 1 → step_at (unknown t) k ≡ unknown t
at-leaf t k h = ap (λ (n : List Plain). get_or n (k - 1) (unknown t)) (steps_of-unknown t) ∙ (let z : k - 1 ≡ 0 = omega arith in ap (λ (n : ℕ). get_or (unknown t ∷ []) n (unknown t)) z)

pub seat-found : (xs : List Plain) (k i left : ℕ) (d : Plain) → (i, left) ≡ seat xs k → 1 ≤ k → i < length xs → IsSeat xs k i left d
seat-found xs k i left d e h g = elim (cases_lt (sum_by size_of xs) k) [
  | inl past ↦ let e1 : i ≡ length xs = ap (λ (p : ℕ × ℕ). p.0) (e ∙ seat-past xs k past) in absurd (omega arith)
  | inr here ↦ subst (λ (p : ℕ × ℕ). IsSeat xs k p.0 p.1 d) (sym e) (seat-in xs k d h here)
]

pub seat-root : (xs : List Plain) (k i left : ℕ) → (i, left) ≡ seat xs k → 1 ≤ k → k ≤ sum_by size_of xs + 1 → length xs ≤ i → k ≡ sum_by size_of xs + 1
seat-root xs k i left e h f g = elim (cases_lt (sum_by size_of xs) k) [
  | inl past ↦ omega arith
  | inr here ↦ let s : IsSeat xs k i left (unknown []) = subst (λ (p : ℕ × ℕ). IsSeat xs k p.0 p.1 (unknown [])) (sym e) (seat-in xs k (unknown []) h here) in let w = s.within in absurd (omega arith)
]

pub kid-le : (xs : List Plain) (i : ℕ) (d : Plain) → i < length xs → size_of (get_or xs i d) ≤ sum_by size_of xs
kid-le [] i d h = absurd (omega arith)
kid-le (x ∷ xs) zero d h = omega (arith, sum_by-cons size_of x xs)
kid-le (x ∷ xs) (suc i) d h = omega (arith, sum_by-cons size_of x xs, kid-le xs i d (omega arith))

pub put-in : (t : List WSym) (l : ℕ) (s : Pairs) (xs : List Plain) (k : ℕ) (new : Plain) → k ≤ sum_by size_of xs → put (known t l s xs) k new ≡ known t l s (put_kids xs k new)
put-in t l s xs k new h = put-known t l s xs k new ∙ grind arith

pub put-root : (t : List WSym) (l : ℕ) (s : Pairs) (xs : List Plain) (k : ℕ) (new : Plain) → k ≡ sum_by size_of xs + 1 → put (known t l s xs) k new ≡ new
put-root t l s xs k new h = put-known t l s xs k new ∙ grind arith

pub within-kids : (xs : List Plain) (k i left : ℕ) → (i, left) ≡ seat xs k → i < length xs → k ≤ sum_by size_of xs
within-kids xs k i left e g = elim (cases_lt (sum_by size_of xs) k) [
  | inl past ↦ let e1 : i ≡ length xs = ap (λ (p : ℕ × ℕ). p.0) (e ∙ seat-past xs k past) in absurd (omega arith)
  | inr here ↦ here
]

-- a child reached by its seat
pub record IsKid (x d : Plain) (k left : ℕ) : Type 0 where
  pub smaller : size_of d < size_of x
  pub first : 1 ≤ left
  pub last : left ≤ size_of d
  pub step : step_at d left ≡ step_at x k

pub record IsKidAt (t : List WSym) (l : ℕ) (s : Pairs) (xs : List Plain) (d : Plain) (k i left : ℕ) : Type 0 where
  pub kid : IsKid (known t l s xs) d k left
  pub puts : (new : Plain) → known t l s (set xs i (put d left new)) ≡ put (known t l s xs) k new

pub kid-found : (t : List WSym) (l : ℕ) (sg : Pairs) (xs : List Plain) (k i left : ℕ) (d : Plain)
    → (i, left) ≡ seat xs k → 1 ≤ k → k ≤ size_of (known t l sg xs) → i < length xs → d ≡ get_or xs i d → IsKidAt t l sg xs d k i left
kid-found t l sg xs k i left d e h f g is =
    let s : IsSeat xs k i left d = seat-found xs k i left d e h g in
    let w : i < length xs = s.within in
    let n : size_of (known t l sg xs) ≡ sum_by size_of xs + 1 = size_of-known t l sg xs in
    let m : size_of (get_or xs i d) ≤ sum_by size_of xs = kid-le xs i d w in
    let same : size_of d ≡ size_of (get_or xs i d) = ap size_of is in
    let not-root : k ≤ sum_by size_of xs = within-kids xs k i left e w in
    let last : left ≤ size_of (get_or xs i d) = s.last in
    record {
      kid = record {
        smaller = omega arith;
        first = s.first;
        last = omega arith;
        step = ap (λ (y : Plain). step_at y left) is ∙ sym (at-kid t l sg xs k i left d s h not-root);
      };
      puts = λ new. ap (λ (y : Plain). known t l sg (set xs i (put y left new))) is ∙ ap (known t l sg) (sym (s.puts new)) ∙ sym (put-in t l sg xs k new not-root);
    }

pub ruleset trees = (arith, common_steps, size_of-known, size_of-unknown, seat-past, put-known, put-unknown, sum_by-cons)
