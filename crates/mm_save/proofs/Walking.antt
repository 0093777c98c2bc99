-- A walk over the steps of a proof, which looks for a clash.
use Rattle.std.proofs.Common.{◌≡◌, ◌<◌, ◌≤◌, ◌+◌, ◌-◌, ℕ, List, [], ◌∷◌, ◌++◌, None, Some, Option, All, length, map, drop, get_or, slice_get, refl, sym, ap, ◌∙◌, subst, arith}
use Rattle.std.specs.List.{flat_map}
use Rattle.std.proofs.lemmas.List.{drop_more, drop_all, get_or-map, length-map}
use Rattle.mm_scope.specs.Contents.{labels_of, stated_at}
use Rattle.mm_subst.specs.declared.symbol.WSym.{WSym}
use Rattle.mm_subst.specs.declared.symbol.WSym.TheVariants.{Var}
use Rattle.mm_plain.specs.declared.plain.Plain.{Plain}
use Rattle.mm_plain.specs.declared.plain.Plain.TheOpen.{Plain-F}
use Rattle.mm_plain.specs.declared.plain.Plain.TheOpen as P
use Rattle.mm_plain.specs.declared.plain.Plain.TheViews as V
use Rattle.mm_plain.specs.Numbers.{IsOwnLabel, HasOwnLabels, labels_in}
use Rattle.mm_plain.specs.Premises.{variables_for}
use Rattle.mm_plain.specs.Shape.{Each, Proof, steps_of, step_at, size_of}
use Rattle.mm_plain.specs.Sources.{label_of, label_layer, sigma_of, values_layer}
use Rattle.mm_plain.specs.Valid.{good_layer, IsGood, IsSound, IsValid}
use Rattle.mm_plain.proofs.Equations.{length-steps_of}
use Rattle.mm_plain.proofs.Owned.{own-valid}
use Rattle.mm_plain.proofs.Walks.{each-at}
use Rattle.mm_sound.specs.Apart.{pairs_by}
use Rattle.mm_save.specs.Clashes.{HasBoth, clashes_under, clashes_at, clashes_from}
use Rattle.mm_save.specs.declared.clash.Clash.{Clash}
use Rattle.mm_save.proofs.Firsts.{none_there, one_there}
use Rattle.mm_save.proofs.Paired.{pairs_have}

module _ (bytes : List ℕ) (groups : List (List ℕ)) (k : ℕ) (xs : List Plain) (i : ℕ) (d : Plain) where
  -- a step without a clash
  pub walks_on : i < length xs → None ≡ slice_get (clashes_at bytes groups k (get_or xs i d)) 0
      → slice_get (clashes_from bytes groups (k + 1) (drop (i + 1) xs)) 0 ≡ slice_get (clashes_from bytes groups k (drop i xs)) 0
  walks_on h none =
      sym (ap (λ ys. slice_get (clashes_from bytes groups k ys) 0) (drop_more xs i d h)
      ∙ ap (λ ys. slice_get (ys ++ clashes_from bytes groups (k + 1) (drop (i + 1) xs)) 0) (none_there (clashes_at bytes groups k (get_or xs i d)) (sym none)))

  -- a step with one
  pub walk_stops : (f : Clash) → i < length xs → Some f ≡ slice_get (clashes_at bytes groups k (get_or xs i d)) 0 → Some f ≡ slice_get (clashes_from bytes groups k (drop i xs)) 0
  walk_stops f h some =
      sym (ap (λ ys. slice_get (clashes_from bytes groups k ys) 0) (drop_more xs i d h)
      ∙ one_there (clashes_at bytes groups k (get_or xs i d)) (clashes_from bytes groups (k + 1) (drop (i + 1) xs)) f (sym some))

  -- no step is left
  pub walk_ends : length xs ≤ i → None ≡ slice_get (clashes_from bytes groups k (drop i xs)) 0
  walk_ends h = ap (λ ys. slice_get (clashes_from bytes groups k ys) 0) (sym (drop_all i xs h))

  -- an unknown step has none
  pub none_unknown : label_of (get_or xs i d) ≡ None → None ≡ slice_get (clashes_at bytes groups k (get_or xs i d)) 0
  none_unknown h = by (label_of (get_or xs i d)) h
    where
      by : (o : Option ℕ) → o ≡ None → None ≡ slice_get (flat_map (clashes_under groups k (sigma_of (get_or xs i d))) (pairs_by bytes o)) 0
      by None e = refl
      by (Some l) e = cc

-- the step at a place
module _ (x : Plain) (place : ℕ) (small : place < size_of x) where
  within : place < length (steps_of x)
  within = omega (arith, small, length-steps_of x)

  pub few_labels : (labels : List (Option ℕ)) → labels ≡ labels_in x → place < length labels
  few_labels labels is = omega (arith, small, ap length is, length-map (steps_of x) label_of, length-steps_of x)

  pub step_is : step_at x (place + 1) ≡ get_or (steps_of x) place x
  step_is = let e : place + 1 - 1 ≡ place = omega arith in ap (λ k. get_or (steps_of x) k x) e

  pub label_there : (labels : List (Option ℕ)) (d : Option ℕ) → labels ≡ labels_in x → label_of (step_at x (place + 1)) ≡ get_or labels place d
  label_there labels d is =
      ap label_of step_is ∙ sym (get_or-map label_of (steps_of x) place x d within) ∙ ap (λ (ls : List (Option ℕ)). get_or ls place d) (sym is)

  module _ (bytes : List ℕ) (at : ℕ) (goal : List WSym) (next : ℕ) (own : at < length (labels_of bytes)) (valid : IsValid bytes at goal (record { plain = x; next = next })) where
    own_at : (o : Option ℕ) (id : ℕ) → o ≡ Some id → IsOwnLabel bytes o → id < length (labels_of bytes)
    own_at None id e h = cc
    own_at (Some l) id e h = let same : l ≡ id = cc in subst (λ (n : ℕ). n < length (labels_of bytes)) same h

    -- its label is the database's own
    pub own_label : (id : ℕ) → label_of (step_at x (place + 1)) ≡ Some id → id < length (labels_of bytes)
    unfolding HasOwnLabels
    own_label id h =
        own_at (label_of (get_or (steps_of x) place x)) id (ap label_of (sym step_is) ∙ h)
        (each-at (λ y. IsOwnLabel bytes (label_of y)) (steps_of x) place x (own-valid bytes at goal (record { plain = x; next = next }) own valid) within)

    keys_by : (l : Plain-F Plain) (id : ℕ) → good_layer (record { bytes = bytes; at = at; next = next }) l → label_layer l ≡ Some id → map (λ p. p.0) (values_layer l) ≡ map Var (variables_for bytes id)
    keys_by (P.Unknown t) id g e = cc
    keys_by (P.Known t l s kids) id g e = let same : l ≡ id = cc in g.names.keys ∙ ap (λ n. map Var (variables_for bytes n)) same

    -- its substitution has values for the mandatory pairs
    pub has_values : (id : ℕ) → label_of (step_at x (place + 1)) ≡ Some id → All (HasBoth (sigma_of (step_at x (place + 1)))) (stated_at bytes id).pairs
    unfolding IsSound IsGood label_of sigma_of
    has_values id h =
        let y : Plain = get_or (steps_of x) place x in
        let good : IsGood (record { bytes = bytes; at = at; next = next }) y = each-at (IsGood (record { bytes = bytes; at = at; next = next })) (steps_of x) place x valid.steps within in
        let P : Plain → Type 0 = λ z. All (HasBoth (sigma_of z)) (stated_at bytes id).pairs in
        subst P (sym step_is) (pairs_have bytes id (sigma_of y) (keys_by (V.out-Plain y) id good (ap label_of (sym step_is) ∙ h)))
