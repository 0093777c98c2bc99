-- The first of a list that passes, and what is found.
use Rattle.std.proofs.Common.{◌≡◌, ◌+◌, ◌<◌, ◌≤◌, ℕ, List, [], ◌∷◌, ◌++◌, take, length, get_or, sym, Option, None, Some, Bool, true, false, cond, ◌&&◌, refl, ◌∙◌, ap, arith, leb, inl, inr}
use Rattle.std.proofs.lemmas.Bool.{cases_lt, le-ltb, lt-ltb}
use Rattle.std.proofs.lemmas.List.{take_all, take_more}
use Rattle.mm_chart.specs.Options.{or_else, first}
use Rattle.mm_chart.specs.Charts.{FindsAt, less}

pub first-append : {A : Type 0} (p : A → Bool) (xs ys : List A) → first p (xs ++ ys) ≡ or_else (first p xs) (first p ys)
first-append p [] ys = refl
first-append p (x ∷ xs) ys = elim (p x) as (λ b. cond b (Some x) (first p (xs ++ ys)) ≡ or_else (cond b (Some x) (first p xs)) (first p ys)) [ true ↦ refl | false ↦ first-append p xs ys ]

pub first-same : {A : Type 0} (p q : A → Bool) (xs : List A) → ((x : A) → p x ≡ q x) → first p xs ≡ first q xs
first-same p q [] h = refl
first-same p q (x ∷ xs) h = rw (h x, first-same p q xs h) refl

pub first-none : {A : Type 0} (p : A → Bool) (xs : List A) → ((x : A) → p x ≡ false) → first p xs ≡ None
first-none p [] h = refl
first-none p (x ∷ xs) h = rw (h x) (first-none p xs h)

pub or_else-none : {A : Type 0} (a b : Option A) → a ≡ None → or_else a b ≡ b
or_else-none a b e = rw e refl

-- what is found of two lists, one behind the other
pub FindsAt-append : {A : Type 0} (r : ℕ) (q : A → Bool) (xs ys : List A) (a b : Option (ℕ × A)) → FindsAt r q xs a → FindsAt r q ys b → FindsAt r q (xs ++ ys) (less a b)
FindsAt-append r q xs ys None None h k = first-append q xs ys ∙ or_else-none (first q xs) (first q ys) h ∙ k
FindsAt-append r q xs ys None (Some b) h k =
    let e = first-append q xs ys ∙ or_else-none (first q xs) (first q ys) h in
    (λ l. e ∙ k.0 l, λ l. e ∙ k.1 l)
FindsAt-append r q xs ys (Some a) None h k =
    let e = first-append q xs ys in
    (λ l. e ∙ or_else-none (first q xs) (first q ys) (h.0 l) ∙ k, λ l. e ∙ ap (λ (o : Option _). or_else o (first q ys)) (h.1 l))
FindsAt-append r q xs ys (Some a) (Some b) h k =
    let e = first-append q xs ys in
    elim (cases_lt b.0 a.0) [
      | inl l ↦ rw (lt-ltb b.0 a.0 l) (λ m. e ∙ or_else-none (first q xs) (first q ys) (h.0 (omega arith)) ∙ k.0 m, λ m. e ∙ or_else-none (first q xs) (first q ys) (h.0 (omega arith)) ∙ k.1 m)
      | inr l ↦ rw (le-ltb b.0 a.0 l) (λ m. e ∙ or_else-none (first q xs) (first q ys) (h.0 m) ∙ k.0 (omega arith), λ m. e ∙ ap (λ (o : Option _). or_else o (first q ys)) (h.1 m))
    ]

-- a list of which nothing passes
pub FindsAt-skip : {A : Type 0} (r : ℕ) (q : A → Bool) (xs ys : List A) (a : Option (ℕ × A)) → FindsAt r q xs a → first q ys ≡ None → FindsAt r q (xs ++ ys) a
FindsAt-skip r q xs ys None h k = first-append q xs ys ∙ or_else-none (first q xs) (first q ys) h ∙ k
FindsAt-skip r q xs ys (Some a) h k =
    let e = first-append q xs ys in
    (λ l. e ∙ or_else-none (first q xs) (first q ys) (h.0 l) ∙ k, λ l. e ∙ ap (λ (o : Option _). or_else o (first q ys)) (h.1 l))

pub at_max : (a b r : ℕ) → leb a r ≡ true → leb b r ≡ true → (leb a r && leb b r) ≡ true
at_max a b r h k = rw (h, k) refl

-- none among the first ones, and one more
pub first_more : {A : Type 0} (p : A → Bool) (xs : List A) (i : ℕ) (d : A) → i < length xs → p (get_or xs i d) ≡ false → first p (take i xs) ≡ None → first p (take (i + 1) xs) ≡ None
first_more p xs i d l n h =
    ap (first p) (take_more xs i d l) ∙ first-append p (take i xs) (get_or xs i d ∷ []) ∙ or_else-none (first p (take i xs)) (first p (get_or xs i d ∷ [])) h
    ∙ ap (λ (b : Bool). cond b (Some (get_or xs i d)) None) n

pub first_end : {A : Type 0} (p : A → Bool) (xs : List A) (i : ℕ) → length xs ≤ i → first p (take i xs) ≡ None → first p xs ≡ None
first_end p xs i l h = ap (first p) (sym (take_all i xs l)) ∙ h
