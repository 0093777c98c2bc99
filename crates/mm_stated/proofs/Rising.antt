-- Rising numbers.
use Rattle.std.proofs.Common.{◌≡◌, ℕ, zero, suc, ◌+◌, ◌≤◌, ◌<◌, Bool, true, false, cond, ◌||◌, List, [], ◌∷◌, ◌++◌, length, take, filter, fold, get_or, nat_eq, nat_lt, nat_cmp, refl, sym, ap, ◌∙◌, subst, arith, ◌⊎◌, inl, inr, Result, Ok, Err, IfOk}
use Rattle.std.proofs.lemmas.Bool.{eqb-true, true≢false, false≢true, or_left, or_right}
use Rattle.std.proofs.lemmas.Map.Keys.{IsDistinct-push, IsDistinct-IsPermutation, IsStrictlyIncreasing-from_distinct}
use Rattle.std.proofs.lemmas.List.Sorted.{IsNonDecreasingBy-from_sort, list_any-IsPermutation}
use Rattle.std.specs.List.{list_any, IsDistinct}
use Rattle.std.specs.List.Sorted.{IsSorted, IsPermutation, IsStrictlyIncreasing}
use Rattle.std.specs.Cmp.{IsEquivalence}
use Rattle.mm_tables.specs.Marked.{with_number}
use Rattle.mm_stated.specs.Needed.{put_in, rising}
use Rattle.std.proofs.lemmas.List.Folds.{list_any-append}
use Rattle.std.proofs.Math.Bool.{or-false, or_assoc}

-- the numbers rise from low on
abbrev pub Rises : ℕ → List ℕ → Type 0
Rises low [] = Unit {0}
Rises low (x ∷ xs) = (low ≤ x) × Rises (suc x) xs

pub lower : (low high : ℕ) (xs : List ℕ) → low ≤ high → Rises high xs → Rises low xs
lower low high [] h r = tt
lower low high (x ∷ xs) h r = (omega (arith, h, r.0), r.1)

pub rises_filter : (p : ℕ → Bool) (low : ℕ) (xs : List ℕ) → Rises low xs → Rises low (filter p xs)
rises_filter p low [] r = tt
rises_filter p low (x ∷ xs) r = by (p x) (rises_filter p (suc x) xs r.1)
  where
    by : (b : Bool) → Rises (suc x) (filter p xs) → Rises low (cond b (x ∷ filter p xs) (filter p xs))
    by true rest = (r.0, rest)
    by false rest = lower low (suc x) (filter p xs) (omega (arith, r.0)) rest

pub rises_take : (m low : ℕ) (xs : List ℕ) → Rises low xs → Rises low (take m xs)
rises_take zero low xs r = tt
rises_take (suc m) low [] r = tt
rises_take (suc m) low (x ∷ xs) r = (r.0, rises_take m (suc x) xs r.1)

eq_itself : (n : ℕ) → nat_eq n n ≡ true
eq_itself n = grind arith

eq_below : (k x : ℕ) → k < x → nat_eq k x ≡ false
eq_below k x h = grind (arith, h)

pub rises_push : (n low : ℕ) (xs : List ℕ) → low ≤ n → Rises low xs → ((k : ℕ) → list_any (nat_eq k) xs ≡ true → k < n) → Rises low (xs ++ n ∷ [])
rises_push n low [] h r below = (h, tt)
rises_push n low (x ∷ xs) h r below =
    let less : x < n = below x (or_left (nat_eq x x) (list_any (nat_eq x) xs) (eq_itself x)) in
    (r.0, rises_push n (suc x) xs (omega (arith, less)) r.1 (λ k on. below k (or_right (nat_eq k x) (list_any (nat_eq k) xs) on)))

-- what rises from low on has nothing below
none_below : (k low : ℕ) (xs : List ℕ) → k < low → Rises low xs → list_any (nat_eq k) xs ≡ false
none_below k low [] h r = refl
none_below k low (x ∷ xs) h r = ap (λ b. b || list_any (nat_eq k) xs) (eq_below k x (omega (arith, h, r.0))) ∙ none_below k (suc x) xs (omega (arith, h, r.0)) r.1

order : (x y : ℕ) → (x < y) ⊎ ((y < x) ⊎ (x ≡ y))
order x y = grind arith

there : (x : ℕ) (xs : List ℕ) → list_any (nat_eq x) (x ∷ xs) ≡ true
there x xs = or_left (nat_eq x x) (list_any (nat_eq x) xs) (eq_itself x)

-- rising numbers are given by what is among them
pub same_rising : (xs ys : List ℕ) (low : ℕ) → Rises low xs → Rises low ys → ((k : ℕ) → list_any (nat_eq k) xs ≡ list_any (nat_eq k) ys) → xs ≡ ys
same_rising [] [] low r s same = refl
same_rising [] (y ∷ ys) low r s same = absurd (false≢true (same y ∙ there y ys))
same_rising (x ∷ xs) [] low r s same = absurd (true≢false (sym (there x xs) ∙ same x))
same_rising (x ∷ xs) (y ∷ ys) low r s same = by (order x y) (λ t sames. same_rising xs ys (suc x) r.1 t sames)
  where
    tails : x ≡ y → (k : ℕ) (b : Bool) → nat_eq k x ≡ b → list_any (nat_eq k) xs ≡ list_any (nat_eq k) ys
    tails e k true on =
        let here : k ≡ x = eqb-true k x on in
        none_below k (suc x) xs (omega (arith, here)) r.1 ∙ sym (none_below k (suc y) ys (omega (arith, here, e)) s.1)
    tails e k false off =
        ap (λ b. b || list_any (nat_eq k) xs) (sym off) ∙ same k ∙ ap (λ b. b || list_any (nat_eq k) ys) (ap (nat_eq k) (sym e) ∙ off)

    by : (x < y) ⊎ ((y < x) ⊎ (x ≡ y)) → (Rises (suc x) ys → ((k : ℕ) → list_any (nat_eq k) xs ≡ list_any (nat_eq k) ys) → xs ≡ ys) → x ∷ xs ≡ y ∷ ys
    by (inl h) rest = absurd (true≢false (sym (there x xs) ∙ same x ∙ none_below x y (y ∷ ys) h (omega arith, s.1)))
    by (inr (inl h)) rest = absurd (true≢false (sym (there y ys) ∙ sym (same y) ∙ none_below y x (x ∷ xs) h (omega arith, r.1)))
    by (inr (inr e)) rest =
        ap (λ z. z ∷ xs) e ∙ ap (λ zs. y ∷ zs) (rest (subst (λ z. Rises (suc z) ys) (sym e) s.1) (λ k. tails e k (nat_eq k x) refl))

-- a number put in its place
put_rises : (n low : ℕ) (xs : List ℕ) → low ≤ n → Rises low xs → Rises low (put_in n xs)
unfolding put_in
put_rises n low [] h r = (h, tt)
put_rises n low (x ∷ xs) h r = by (nat_lt n x) refl (nat_eq n x) refl (λ above. put_rises n (suc x) xs above r.1)
  where
    less : nat_lt n x ≡ true → suc n ≤ x
    less e = grind (arith, e)

    more : nat_lt n x ≡ false → nat_eq n x ≡ false → suc x ≤ n
    more e f = grind (arith, e, f)

    by : (b : Bool) → nat_lt n x ≡ b → (c : Bool) → nat_eq n x ≡ c → (suc x ≤ n → Rises (suc x) (put_in n xs)) → Rises low (cond b (n ∷ x ∷ xs) (cond c (x ∷ xs) (x ∷ put_in n xs)))
    by true e c f rest = (h, (less e, r.1))
    by false e true f rest = r
    by false e false f rest = (r.0, rest (more e f))

or_twice : (a b : Bool) → (a || b) ≡ (a || (a || b))
or_twice true b = refl
or_twice false b = refl

or_swap : (a b c : Bool) → (a || (b || c)) ≡ (b || (a || c))
or_swap true true c = refl
or_swap true false c = refl
or_swap false b c = refl

put_any : (k n : ℕ) (xs : List ℕ) → list_any (nat_eq k) (put_in n xs) ≡ (nat_eq k n || list_any (nat_eq k) xs)
unfolding put_in
put_any k n [] = refl
put_any k n (x ∷ xs) = by (nat_lt n x) (nat_eq n x) refl (put_any k n xs)
  where
    by : (b c : Bool) → nat_eq n x ≡ c → list_any (nat_eq k) (put_in n xs) ≡ (nat_eq k n || list_any (nat_eq k) xs) → list_any (nat_eq k) (cond b (n ∷ x ∷ xs) (cond c (x ∷ xs) (x ∷ put_in n xs))) ≡ (nat_eq k n || (nat_eq k x || list_any (nat_eq k) xs))
    by true c f rest = refl
    by false true f rest =
        or_twice (nat_eq k x) (list_any (nat_eq k) xs) ∙ ap (λ m. nat_eq k m || (nat_eq k x || list_any (nat_eq k) xs)) (sym (eqb-true n x f))
    by false false f rest = ap (λ b. nat_eq k x || b) rest ∙ or_swap (nat_eq k x) (nat_eq k n) (list_any (nat_eq k) xs)

pub rising_rises : (ns : List ℕ) → Rises 0 (rising ns)
unfolding rising
rising_rises [] = tt
rising_rises (n ∷ ns) = put_rises n 0 (rising ns) (omega arith) (rising_rises ns)

pub rising_any : (k : ℕ) (ns : List ℕ) → list_any (nat_eq k) (rising ns) ≡ list_any (nat_eq k) ns
unfolding rising
rising_any k [] = refl
rising_any k (n ∷ ns) = put_any k n (rising ns) ∙ ap (λ b. nat_eq k n || b) (rising_any k ns)

-- numbers that are gathered, each once
same_numbers : IsEquivalence nat_eq
same_numbers = record { refl = eq_itself; symm = flips; congr = alike }
  where
    flips : (x y : ℕ) → nat_eq x y ≡ nat_eq y x
    flips x y = grind arith

    alike : (x y z : ℕ) → nat_eq x y ≡ true → nat_eq x z ≡ nat_eq y z
    alike x y z e = rw (eqb-true x y e) refl

gathered_any_by : (k n : ℕ) (xs : List ℕ) (b : Bool) → list_any (nat_eq n) xs ≡ b → list_any (nat_eq k) (cond b xs (xs ++ n ∷ [])) ≡ (list_any (nat_eq k) xs || nat_eq k n)
gathered_any_by k n xs true e = by (nat_eq k n) refl
  where
    by : (b : Bool) → nat_eq k n ≡ b → list_any (nat_eq k) xs ≡ (list_any (nat_eq k) xs || b)
    by true f = let same : list_any (nat_eq k) xs ≡ true = ap (λ m. list_any (nat_eq m) xs) (eqb-true k n f) ∙ e in same ∙ sym (or_left (list_any (nat_eq k) xs) true same)
    by false f = sym (or-false (list_any (nat_eq k) xs))
gathered_any_by k n xs false e = list_any-append (nat_eq k) xs (n ∷ []) ∙ ap (λ b. list_any (nat_eq k) xs || b) (or-false (nat_eq k n))

pub gathered_any : (k : ℕ) (ns xs : List ℕ) → list_any (nat_eq k) (fold with_number xs ns) ≡ (list_any (nat_eq k) xs || list_any (nat_eq k) ns)
gathered_any k [] xs = sym (or-false (list_any (nat_eq k) xs))
gathered_any k (n ∷ ns) xs =
    gathered_any k ns (with_number xs n) ∙ ap (λ b. b || list_any (nat_eq k) ns) (gathered_any_by k n xs (list_any (nat_eq n) xs) refl)
    ∙ or_assoc (list_any (nat_eq k) xs) (nat_eq k n) (list_any (nat_eq k) ns)

once_by : (n : ℕ) (xs : List ℕ) (b : Bool) → list_any (nat_eq n) xs ≡ b → IsDistinct nat_eq xs → IsDistinct nat_eq (cond b xs (xs ++ n ∷ []))
once_by n xs true e d = d
once_by n xs false e d = IsDistinct-push same_numbers xs n d e

gathered_once : (ns xs : List ℕ) → IsDistinct nat_eq xs → IsDistinct nat_eq (fold with_number xs ns)
gathered_once [] xs d = d
gathered_once (n ∷ ns) xs d = gathered_once ns (with_number xs n) (once_by n xs (list_any (nat_eq n) xs) refl d)

none_twice : IsDistinct nat_eq []
unfolding IsDistinct
none_twice = tt

rises_from : (xs : List ℕ) (low : ℕ) → (0 < length xs → low ≤ get_or xs 0 0) → IsStrictlyIncreasing xs → Rises low xs
rises_from [] low h up = tt
rises_from (x ∷ xs) low h up =
    (h (omega arith), rises_from xs (suc x) (λ some. let next = up 0 (omega (arith, some)) in omega (arith, next)) (λ k less. rw Rattle.std.proofs.Common.add-one (rw Rattle.std.proofs.Common.add-one at (up (suc k) (omega (arith, less))))))

-- the gathered numbers in order
pub sorted_needed : (ns found : List ℕ) → IsPermutation (fold with_number [] ns) found → IsSorted nat_cmp found → found ≡ rising ns
sorted_needed ns found moved up =
    let once : IsDistinct nat_eq found = IsDistinct-IsPermutation nat_eq same_numbers.symm (fold with_number [] ns) found moved (gathered_once ns [] none_twice) in
    same_rising found (rising ns) 0 (rises_from found 0 (λ _. omega arith) (IsStrictlyIncreasing-from_distinct found (IsNonDecreasingBy-from_sort (λ x. x) found up) once)) (rising_rises ns)
    (λ k. sym (list_any-IsPermutation (nat_eq k) (fold with_number [] ns) found moved) ∙ gathered_any k ns [] ∙ sym (rising_any k ns))
