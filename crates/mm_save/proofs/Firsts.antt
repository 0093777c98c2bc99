-- The first of several lists of clashes, one after another.
use Rattle.std.proofs.Common.{◌≡◌, ◌<◌, ◌≤◌, ◌+◌, ℕ, List, [], ◌∷◌, ◌++◌, None, Some, length, drop, get_or, slice_get, refl, ap, sym, ◌∙◌}
use Rattle.std.specs.List.{flat_map}
use Rattle.std.specs.Prelude.{unwrap_or}
use Rattle.std.proofs.lemmas.Option.{none-some}
use Rattle.std.proofs.lemmas.List.{drop_more, drop_all}

module _ {F : Type 0} where
  pub none_there : (fs : List F) → slice_get fs 0 ≡ None → fs ≡ []
  none_there [] h = refl
  none_there (g ∷ gs) h = absurd (none-some g (sym h))

  pub one_there : (fs gs : List F) (f : F) → slice_get fs 0 ≡ Some f → slice_get (fs ++ gs) 0 ≡ Some f
  one_there [] gs f h = absurd (none-some f h)
  one_there (g ∷ fs) gs f h = ap (λ x. Some x) (ap (λ o. unwrap_or o g) h)

module _ {A F : Type 0} where
  -- an item without a clash
  pub goes_on : (fs : A → List F) (xs : List A) (i : ℕ) (d : A) → i < length xs → None ≡ slice_get (fs (get_or xs i d)) 0
      → slice_get (flat_map fs (drop (i + 1) xs)) 0 ≡ slice_get (flat_map fs (drop i xs)) 0
  goes_on fs xs i d h none =
      sym (ap (λ ys. slice_get (flat_map fs ys) 0) (drop_more xs i d h)
      ∙ ap (λ ys. slice_get (ys ++ flat_map fs (drop (i + 1) xs)) 0) (none_there (fs (get_or xs i d)) (sym none)))

  -- an item with one
  pub stops : (fs : A → List F) (xs : List A) (i : ℕ) (d : A) (f : F) → i < length xs → Some f ≡ slice_get (fs (get_or xs i d)) 0
      → Some f ≡ slice_get (flat_map fs (drop i xs)) 0
  stops fs xs i d f h some =
      sym (ap (λ ys. slice_get (flat_map fs ys) 0) (drop_more xs i d h)
      ∙ one_there (fs (get_or xs i d)) (flat_map fs (drop (i + 1) xs)) f (sym some))

  -- no item is left
  pub at_end : (fs : A → List F) (xs : List A) (i : ℕ) → length xs ≤ i → None ≡ slice_get (flat_map fs (drop i xs)) 0
  at_end fs xs i h = ap (λ ys. slice_get (flat_map fs ys) 0) (sym (drop_all i xs h))
