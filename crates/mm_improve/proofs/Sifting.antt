-- Those of the first numbers that pass a test, one number more.
use Rattle.std.proofs.Common.{◌≡◌, ℕ, suc, zero, ◌+◌, Bool, true, false, cond, ◌&&◌, List, [], ◌∷◌, ◌++◌, map, filter, refl, sym, ◌∙◌, ap, arith}
use Rattle.std.specs.List.{range_with_len}
use Rattle.std.proofs.lemmas.Bool.{and_parts, true≢false}
use Rattle.std.proofs.lemmas.List.{map-append}
use Rattle.std.proofs.lemmas.List.Elements.{filter-append}

range_more : (a n : ℕ) → range_with_len a (suc n) ≡ range_with_len a n ++ (a + n) ∷ []
range_more a zero = let e : a ≡ a + 0 = omega arith in ap (λ (k : ℕ). k ∷ []) e
range_more a (suc n) =
    let next : a + 1 ≡ suc a = omega arith in
    let e : suc a + n ≡ a + suc n = omega arith in
    let before : a ∷ range_with_len (a + 1) n ≡ a ∷ range_with_len (suc a) n = ap (λ (k : ℕ). a ∷ range_with_len k n) next in
    ap (λ (k : ℕ). a ∷ range_with_len k (suc n)) next
    ∙ ap (λ (ks : List ℕ). a ∷ ks) (range_more (suc a) n)
    ∙ ap (λ (k : ℕ). a ∷ (range_with_len (suc a) n ++ k ∷ [])) e
    ∙ sym (ap (λ (ks : List ℕ). ks ++ (a + suc n) ∷ []) before)

pub first_more : (n : ℕ) → range_with_len 0 (n + 1) ≡ range_with_len 0 n ++ n ∷ []
first_more n =
    let next : n + 1 ≡ suc n = omega arith in
    let same : 0 + n ≡ n = omega arith in
    ap (λ (k : ℕ). range_with_len 0 k) next ∙ range_more 0 n ∙ ap (λ (k : ℕ). range_with_len 0 n ++ k ∷ []) same

nothing : {A : Type 0} (xs : List A) → xs ++ [] ≡ xs
nothing [] = refl
nothing (x ∷ xs) = ap (λ ys. x ∷ ys) (nothing xs)

module _ {A : Type 0} (f : ℕ → A) (p : ℕ → Bool) where
  sifted : (n : ℕ) → map f (filter p (range_with_len 0 (n + 1))) ≡ map f (filter p (range_with_len 0 n)) ++ map f (filter p (n ∷ []))
  sifted n =
      ap (λ (ks : List ℕ). map f (filter p ks)) (first_more n)
      ∙ ap (λ (ks : List ℕ). map f ks) (filter-append p (range_with_len 0 n) (n ∷ []))
      ∙ map-append f (filter p (range_with_len 0 n)) (filter p (n ∷ []))

  pub one_taken : (n : ℕ) → p n ≡ true → map f (filter p (range_with_len 0 n)) ++ f n ∷ [] ≡ map f (filter p (range_with_len 0 (n + 1)))
  one_taken n h = sym (sifted n ∙ ap (λ (b : Bool). map f (filter p (range_with_len 0 n)) ++ map f (cond b (n ∷ []) [])) h)

  pub one_passed : (n : ℕ) → p n ≡ false → map f (filter p (range_with_len 0 n)) ≡ map f (filter p (range_with_len 0 (n + 1)))
  one_passed n h = sym (sifted n ∙ ap (λ (b : Bool). map f (filter p (range_with_len 0 n)) ++ map f (cond b (n ∷ []) [])) h ∙ nothing (map f (filter p (range_with_len 0 n))))

  -- and of these those that pass a second test
  pub both_taken : (q : A → Bool) (n : ℕ) → (q (f n) && p n) ≡ true → filter q (map f (filter p (range_with_len 0 n))) ++ f n ∷ [] ≡ filter q (map f (filter p (range_with_len 0 (n + 1))))
  both_taken q n h =
      let w = and_parts (q (f n)) (p n) h in
      let old = map f (filter p (range_with_len 0 n)) in
      sym (ap (filter q) (sym (one_taken n w.1)) ∙ filter-append q old (f n ∷ []) ∙ ap (λ (b : Bool). filter q old ++ cond b (f n ∷ []) []) w.0)

  pub not_taken : (q : A → Bool) (n : ℕ) → (q (f n) && p n) ≡ false → filter q (map f (filter p (range_with_len 0 n))) ≡ filter q (map f (filter p (range_with_len 0 (n + 1))))
  not_taken q n h = by (p n) (q (f n)) refl refl h
    where
      old : List A
      old = map f (filter p (range_with_len 0 n))

      by : (a b : Bool) → p n ≡ a → q (f n) ≡ b → (q (f n) && p n) ≡ false → filter q old ≡ filter q (map f (filter p (range_with_len 0 (n + 1))))
      by false b e k h = ap (filter q) (one_passed n e)
      by true false e k h = sym (ap (filter q) (sym (one_taken n e)) ∙ filter-append q old (f n ∷ []) ∙ ap (λ (b : Bool). filter q old ++ cond b (f n ∷ []) []) k ∙ nothing (filter q old))
      by true true e k h = absurd (true≢false (sym (ap (λ (b : Bool). b && p n) k ∙ e) ∙ h))
