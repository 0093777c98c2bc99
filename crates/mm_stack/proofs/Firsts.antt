-- The first of several lists of faults, one after another.
use Rattle.std.proofs.Common.{◌≡◌, ◌<◌, ◌≤◌, ◌+◌, ℕ, Bool, true, false, List, [], ◌∷◌, ◌++◌, None, Some, length, drop, get_or, filter, slice_get, refl, ap, sym, ◌∙◌}
use Rattle.std.specs.List.{flat_map}
use Rattle.std.specs.Prelude.{unwrap_or}
use Rattle.std.proofs.lemmas.Option.{none-some}
use Rattle.std.proofs.lemmas.List.{drop_more, drop_all}

module _ {A : Type 0} where
  with : (p : A → Bool) (x : A) (ys : List A) → p x ≡ true → filter p (x ∷ ys) ≡ x ∷ filter p ys
  with p x ys e = rw e refl

module _ {F : Type 0} where
  none_there : (fs : List F) → slice_get fs 0 ≡ None → fs ≡ []
  none_there [] h = refl
  none_there (g ∷ gs) h = absurd (none-some g (sym h))

  one_there : (fs gs : List F) (f : F) → slice_get fs 0 ≡ Some f → slice_get (fs ++ gs) 0 ≡ Some f
  one_there [] gs f h = absurd (none-some f h)
  one_there (g ∷ fs) gs f h = ap (λ x. Some x) (ap (λ o. unwrap_or o g) h)

module _ {A F : Type 0} where
  -- an item without a fault
  pub goes_on : (fs : A → List F) (xs : List A) (i : ℕ) (d : A) → i < length xs → None ≡ slice_get (fs (get_or xs i d)) 0
      → slice_get (flat_map fs (drop (i + 1) xs)) 0 ≡ slice_get (flat_map fs (drop i xs)) 0
  goes_on fs xs i d h none =
      sym (ap (λ ys. slice_get (flat_map fs ys) 0) (drop_more xs i d h)
      ∙ ap (λ ys. slice_get (ys ++ flat_map fs (drop (i + 1) xs)) 0) (none_there (fs (get_or xs i d)) (sym none)))

  -- an item with one
  pub stops : (fs : A → List F) (xs : List A) (i : ℕ) (d : A) (f : F) → i < length xs → Some f ≡ slice_get (fs (get_or xs i d)) 0
      → Some f ≡ slice_get (flat_map fs (drop i xs)) 0
  stops fs xs i d f h some =
      sym (ap (λ ys. slice_get (flat_map fs ys) 0) (drop_more xs i d h)
      ∙ one_there (fs (get_or xs i d)) (flat_map fs (drop (i + 1) xs)) f (sym some))

  -- the same, of the items that pass a test
  pub passed_over : (p : A → Bool) (fs : A → List F) (xs : List A) (i : ℕ) (d : A) → i < length xs → p (get_or xs i d) ≡ false
      → slice_get (flat_map fs (filter p (drop (i + 1) xs))) 0 ≡ slice_get (flat_map fs (filter p (drop i xs))) 0
  passed_over p fs xs i d h off = sym (ap (λ ys. slice_get (flat_map fs (filter p ys)) 0) (drop_more xs i d h)
      ∙ ap (λ ys. slice_get (flat_map fs ys) 0) (without (get_or xs i d) (drop (i + 1) xs) off))
    where
      without : (x : A) (ys : List A) → p x ≡ false → filter p (x ∷ ys) ≡ filter p ys
      without x ys e = rw e refl

  pub goes_on_among : (p : A → Bool) (fs : A → List F) (xs : List A) (i : ℕ) (d : A) → i < length xs → p (get_or xs i d) ≡ true → None ≡ slice_get (fs (get_or xs i d)) 0
      → slice_get (flat_map fs (filter p (drop (i + 1) xs))) 0 ≡ slice_get (flat_map fs (filter p (drop i xs))) 0
  goes_on_among p fs xs i d h on none =
      sym (ap (λ ys. slice_get (flat_map fs (filter p ys)) 0) (drop_more xs i d h)
      ∙ ap (λ ys. slice_get (flat_map fs ys) 0) (with p (get_or xs i d) (drop (i + 1) xs) on)
      ∙ ap (λ ys. slice_get (ys ++ flat_map fs (filter p (drop (i + 1) xs))) 0) (none_there (fs (get_or xs i d)) (sym none)))

  pub stops_among : (p : A → Bool) (fs : A → List F) (xs : List A) (i : ℕ) (d : A) (f : F) → i < length xs → p (get_or xs i d) ≡ true → Some f ≡ slice_get (fs (get_or xs i d)) 0
      → Some f ≡ slice_get (flat_map fs (filter p (drop i xs))) 0
  stops_among p fs xs i d f h on some =
      sym (ap (λ ys. slice_get (flat_map fs (filter p ys)) 0) (drop_more xs i d h)
      ∙ ap (λ ys. slice_get (flat_map fs ys) 0) (with p (get_or xs i d) (drop (i + 1) xs) on)
      ∙ one_there (fs (get_or xs i d)) (flat_map fs (filter p (drop (i + 1) xs))) f (sym some))

  -- no item is left
  pub at_the_end : (p : A → Bool) (fs : A → List F) (xs : List A) (i : ℕ) → length xs ≤ i → None ≡ slice_get (flat_map fs (filter p (drop i xs))) 0
  at_the_end p fs xs i h = ap (λ ys. slice_get (flat_map fs (filter p ys)) 0) (sym (drop_all i xs h))

  pub at_end : (fs : A → List F) (xs : List A) (i : ℕ) → length xs ≤ i → None ≡ slice_get (flat_map fs (drop i xs)) 0
  at_end fs xs i h = ap (λ ys. slice_get (flat_map fs ys) 0) (sym (drop_all i xs h))

-- the first fault between equal values
pub same_first : {F : Type 0} (fs : List ℕ → List ℕ → List F) {a b c d : List ℕ} → a ≡ b → c ≡ d → slice_get (fs a c) 0 ≡ slice_get (fs b d) 0
same_first fs {a} {b} {c} {d} e f = ap (λ v. slice_get (fs v c) 0) e ∙ ap (λ v. slice_get (fs b v) 0) f
