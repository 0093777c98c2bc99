-- Two lists in order that have the same elements are equal.
use Rattle.std.proofs.Common.{ℕ, zero, suc, ◌≡◌, ◌≤◌, ◌<◌, List, [], ◌∷◌, ◌++◌, length, get_or, map, refl, sym, ap, ◌∙◌, subst, inl, inr, ◌⊎◌, arith, Bool, true, false, cond}
use Rattle.std.specs.List.{AllByRecursion, AllPairs, Contains, flat_map, filter}
use Rattle.mm_unify.specs.Matching.{lengths}
use Rattle.std.proofs.lemmas.List.Concat.{flat_map-append}

-- an element of a list
abbrev pub Among : {X : Type 0} → X → List X → Type 0
Among x [] = ⊥
Among x (y ∷ ys) = (x ≡ y) ⊎ Among x ys

-- R holds of each element and each later one
abbrev pub Sorted : {X : Type 0} → (X → X → Type 0) → List X → Type 0
Sorted {X = X} R [] = Unit {0}
Sorted {X = X} R (x ∷ xs) = ((y : X) → Among y xs → R x y) × Sorted R xs

module _ {X : Type 0} (R : X → X → Type 0) (one_way : (x y : X) → R x y → R y x → ⊥) where
  heads : (x y : X) (xs ys : List X) → ((z : X) → Among z xs → R x z) → ((z : X) → Among z ys → R y z) → Among x (y ∷ ys) → Among y (x ∷ xs) → x ≡ y
  heads x y xs ys r s (inl e) k = e
  heads x y xs ys r s (inr h) (inl e) = sym e
  heads x y xs ys r s (inr h) (inr k) = absurd (one_way x y (r y k) (s x h))

  tails : (x : X) (xs ys : List X) → ((z : X) → Among z xs → R x z) → ((z : X) → Among z (x ∷ xs) → Among z (x ∷ ys)) → (z : X) → Among z xs → Among z ys
  tails x xs ys r h z k = elim (h z (inr k)) [
    | inl e ↦ absurd (let q = subst (R x) e (r z k) in one_way x x q q)
    | inr m ↦ m
  ]

  pub same_sorted : (xs ys : List X) → Sorted R xs → Sorted R ys → ((x : X) → Among x xs → Among x ys) → ((x : X) → Among x ys → Among x xs) → xs ≡ ys
  same_sorted [] [] h k a b = refl
  same_sorted [] (y ∷ ys) h k a b = absurd (b y (inl refl))
  same_sorted (x ∷ xs) [] h k a b = absurd (a x (inl refl))
  same_sorted (x ∷ xs) (y ∷ ys) h k a b =
      let e = heads x y xs ys h.0 k.0 (a x (inl refl)) (b y (inl refl)) in
      let k' : Sorted R (x ∷ ys) = subst (λ (z : X). Sorted R (z ∷ ys)) (sym e) k in
      let a' : (z : X) → Among z (x ∷ xs) → Among z (x ∷ ys) = subst (λ (w : X). (z : X) → Among z (x ∷ xs) → Among z (w ∷ ys)) (sym e) a in
      let b' : (z : X) → Among z (x ∷ ys) → Among z (x ∷ xs) = subst (λ (w : X). (z : X) → Among z (w ∷ ys) → Among z (x ∷ xs)) (sym e) b in
      ap (λ (z : X). z ∷ xs) e ∙ ap (λ (zs : List X). y ∷ zs) (same_sorted xs ys h.1 k.1 (tails x xs ys h.0 a') (tails x ys xs k'.0 b'))

pub among_contains : {X : Type 0} (x : X) (xs : List X) → Contains xs x → Among x xs
among_contains x [] (i, l, h) = absurd (omega arith)
among_contains x (y ∷ ys) (zero, l, h) = inl (sym (h))
among_contains x (y ∷ ys) (suc i, l, h) = inr (among_contains x ys (i, omega arith, h))

pub among_at : {X : Type 0} (xs : List X) (i : ℕ) (d : X) → i < length xs → Among (get_or xs i d) xs
among_at [] i d l = absurd (omega arith)
among_at (x ∷ xs) zero d l = inl refl
among_at (x ∷ xs) (suc i) d l = inr (among_at xs i d (omega arith))

at_among : {X : Type 0} (x : X) (xs : List X) → Among x xs → (i : ℕ) × (i < length xs) × ((d : X) → get_or xs i d ≡ x)
at_among x [] h = absurd h
at_among x (y ∷ ys) (inl e) = (0, omega arith, λ d. sym e)
at_among x (y ∷ ys) (inr h) = let r = at_among x ys h in let l = r.1 in (suc r.0, omega arith, r.2)

pub sorted_pairs : {X : Type 0} (R : X → X → Type 0) (xs : List X) → AllPairs R xs → Sorted R xs
sorted_pairs R [] h = tt
sorted_pairs R (x ∷ xs) h = (
  (λ y k. let r = at_among y xs k in let l = r.1 in subst (R x) (r.2 y) (h 0 (suc r.0) y (omega arith) (omega arith))),
  sorted_pairs R xs (λ i j d l m. h (suc i) (suc j) d (omega arith) (omega arith)),
)

pub among_all : {X : Type 0} (P : X → Type 0) (xs : List X) → AllByRecursion P xs → (x : X) → Among x xs → P x
among_all P [] h x k = absurd k
among_all P (y ∷ ys) h x (inl e) = subst P (sym e) h.0
among_all P (y ∷ ys) h x (inr k) = among_all P ys h.1 x k

pub among_left : {X : Type 0} (x : X) (xs ys : List X) → Among x xs → Among x (xs ++ ys)
among_left x [] ys h = absurd h
among_left x (y ∷ xs) ys (inl e) = inl e
among_left x (y ∷ xs) ys (inr h) = inr (among_left x xs ys h)

pub among_right : {X : Type 0} (x : X) (xs ys : List X) → Among x ys → Among x (xs ++ ys)
among_right x [] ys h = h
among_right x (y ∷ xs) ys h = inr (among_right x xs ys h)

pub among_either : {X : Type 0} (x : X) (xs ys : List X) → Among x (xs ++ ys) → Among x xs ⊎ Among x ys
among_either x [] ys h = inr h
among_either x (y ∷ xs) ys (inl e) = inl (inl e)
among_either x (y ∷ xs) ys (inr h) = elim (among_either x xs ys h) [ inl a ↦ inl (inr a) | inr b ↦ inr b ]

pub among_map : {X Y : Type 0} (f : X → Y) (x : X) (xs : List X) → Among x xs → Among (f x) (map f xs)
among_map f x [] h = absurd h
among_map f x (y ∷ xs) (inl e) = inl (ap f e)
among_map f x (y ∷ xs) (inr h) = inr (among_map f x xs h)

pub among_mapped : {X Y : Type 0} (f : X → Y) (y : Y) (xs : List X) → Among y (map f xs) → (x : X) × Among x xs × (y ≡ f x)
among_mapped f y [] h = absurd h
among_mapped f y (x ∷ xs) (inl e) = (x, inl refl, e)
among_mapped f y (x ∷ xs) (inr h) = let r = among_mapped f y xs h in (r.0, inr r.1, r.2)

pub sorted_append : {X : Type 0} (R : X → X → Type 0) (xs ys : List X) → Sorted R xs → Sorted R ys → ((x y : X) → Among x xs → Among y ys → R x y) → Sorted R (xs ++ ys)
sorted_append R [] ys h k a = k
sorted_append R (x ∷ xs) ys h k a =
    ((λ y m. elim (among_either y xs ys m) [ inl q ↦ h.0 y q | inr q ↦ a x y (inl refl) q ]), sorted_append R xs ys h.1 k (λ z y m q. a z y (inr m) q))

pub sorted_map : {X Y : Type 0} (R : X → X → Type 0) (S : Y → Y → Type 0) (f : X → Y) (xs : List X) → ((x y : X) → Among x xs → Among y xs → R x y → S (f x) (f y)) → Sorted R xs → Sorted S (map f xs)
sorted_map R S f [] g h = tt
sorted_map R S f (x ∷ xs) g h = ((λ y k. let r = among_mapped f y xs k in subst (S (f x)) (sym r.2) (g x r.0 (inl refl) (inr r.1) (h.0 r.0 r.1))), sorted_map R S f xs (λ y z a b. g y z (inr a) (inr b)) h.1)

-- what is found by each length up to n
abbrev upto : {X : Type 0} → (ℕ → List X) → ℕ → List X
upto f n = flat_map f (lengths n)

pub upto-suc : {X : Type 0} (f : ℕ → List X) (n : ℕ) → flat_map f (lengths (suc n)) ≡ flat_map f (lengths n) ++ f (suc n)
upto-suc f n = flat_map-append f (lengths n) (suc n ∷ []) ∙ ap (λ xs. flat_map f (lengths n) ++ xs) (nil (f (suc n)))
  where
    nil : {X : Type 0} (xs : List X) → xs ++ [] ≡ xs
    nil [] = refl
    nil (x ∷ xs) = ap (λ ys. x ∷ ys) (nil xs)

pub among_lengths : {X : Type 0} (f : ℕ → List X) (n k : ℕ) (x : X) → 1 ≤ k → k ≤ n → Among x (f k) → Among x (flat_map f (lengths n))
among_lengths f zero k x a b h = absurd (omega arith)
among_lengths f (suc n) k x a b h = subst (Among x) (sym (upto-suc f n)) (elim (cases k n) [
  | inl l ↦ among_left x (flat_map f (lengths n)) (f (suc n)) (among_lengths f n k x a l h)
  | inr l ↦ among_right x (flat_map f (lengths n)) (f (suc n)) (let e : k ≡ suc n = omega arith in subst (λ (i : ℕ). Among x (f i)) e h)
])
  where
    cases : (k n : ℕ) → (k ≤ n) ⊎ (n < k)
    cases k n = grind arith

pub among_some_length : {X : Type 0} (f : ℕ → List X) (n : ℕ) (x : X) → Among x (flat_map f (lengths n)) → (k : ℕ) × (1 ≤ k) × (k ≤ n) × Among x (f k)
among_some_length f zero x h = absurd h
among_some_length f (suc n) x h = elim (among_either x (flat_map f (lengths n)) (f (suc n)) (subst (Among x) (upto-suc f n) h)) [
  | inl m ↦ let r = among_some_length f n x m in let a = r.2 in (r.0, r.1, omega arith, r.3)
  | inr m ↦ (suc n, omega arith, omega arith, m)
]

pub sorted_lengths : {X : Type 0} (R : X → X → Type 0) (f : ℕ → List X) (n : ℕ) → ((k : ℕ) → 1 ≤ k → k ≤ n → Sorted R (f k)) → ((i j : ℕ) (x y : X) → 1 ≤ i → i < j → j ≤ n → Among x (f i) → Among y (f j) → R x y) → Sorted R (flat_map f (lengths n))
sorted_lengths R f zero h a = tt
sorted_lengths R f (suc n) h a =
    subst (Sorted R) (sym (upto-suc f n))
    (sorted_append R (flat_map f (lengths n)) (f (suc n)) (sorted_lengths R f n (λ k l m. h k l (omega arith)) (λ i j x y z l m. a i j x y z l (omega arith))) (h (suc n) (omega arith) (omega arith))
    (λ x y m k. let r = among_some_length f n x m in let b = r.2 in a r.0 (suc n) x y r.1 (omega arith) (omega arith) r.3 k))

pub among_filter : {X : Type 0} (p : X → Bool) (x : X) (xs : List X) → Among x xs → p x ≡ true → Among x (filter p xs)
among_filter p x [] h e = absurd h
among_filter p x (y ∷ xs) (inl q) e = rw (sym (ap p q) ∙ e) (inl q)
among_filter p x (y ∷ xs) (inr h) e = elim (p y) as (λ b. Among x (cond b (y ∷ filter p xs) (filter p xs))) [ true ↦ inr (among_filter p x xs h e) | false ↦ among_filter p x xs h e ]

filtered_step : {X : Type 0} (p : X → Bool) (x y : X) (xs : List X) (b : Bool) → p y ≡ b → (Among x (filter p xs) → Among x xs × (p x ≡ true)) → Among x (cond b (y ∷ filter p xs) (filter p xs)) → Among x (y ∷ xs) × (p x ≡ true)
filtered_step p x y xs true e ih (inl q) = (inl q, ap p q ∙ e)
filtered_step p x y xs true e ih (inr k) = let r = ih k in (inr r.0, r.1)
filtered_step p x y xs false e ih k = let r = ih k in (inr r.0, r.1)

pub among_filtered : {X : Type 0} (p : X → Bool) (x : X) (xs : List X) → Among x (filter p xs) → Among x xs × (p x ≡ true)
among_filtered p x [] h = absurd h
among_filtered p x (y ∷ xs) h = filtered_step p x y xs (p y) refl (λ k. among_filtered p x xs k) h

pub sorted_filter : {X : Type 0} (R : X → X → Type 0) (p : X → Bool) (xs : List X) → Sorted R xs → Sorted R (filter p xs)
sorted_filter R p [] h = tt
sorted_filter R p (x ∷ xs) h =
    elim (p x) as (λ b. Sorted R (cond b (x ∷ filter p xs) (filter p xs))) [ true ↦ ((λ y k. h.0 y (among_filtered p y xs k).0), sorted_filter R p xs h.1) | false ↦ sorted_filter R p xs h.1 ]
