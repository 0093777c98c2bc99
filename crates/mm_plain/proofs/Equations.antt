-- The equations of the definitions on plain trees, and induction over them.
use Rattle.std.proofs.Common.{◌≡◌, ℕ, ◌+◌, ◌-◌, ◌≤◌, List, [], ◌∷◌, ◌++◌, map, length, refl, sym, ◌∙◌, ap, subst, arith, length-append, nat_le, if◌then◌else◌}
use Rattle.std.specs.List.{flat_map, sum_by}
use Rattle.std.proofs.lemmas.List.Sums.{sum_by-cons}
use Rattle.std.proofs.lemmas.List.Concat.{flat_map-cons, length-flat_map}
use Rattle.mm_subst.specs.declared.symbol.WSym.{WSym}
use Rattle.mm_subst.specs.Substitutions.{Pairs}
use Rattle.mm_plain.specs.declared.plain.Plain.{Plain}
use Rattle.mm_plain.specs.declared.plain.Plain.TheOpen.{Plain-F}
use Rattle.mm_plain.specs.declared.plain.Plain.TheOpen as L
use Rattle.mm_plain.specs.declared.plain.Plain.TheViews as V
use Rattle.mm_plain.specs.declared.plain.Plain.TheFolds as F
use Rattle.mm_plain.specs.Shape.{unknown, known, size_step, size_of, steps_step, steps_of, depths_step, depths_of, put_step, put_among, put, put_kids, target_of, target_step, height_of, height_step, greatest, Each}

pub sum_by-map : {X Y : Type 0} (f : Y → ℕ) (g : X → Y) (xs : List X) → sum_by f (map g xs) ≡ sum_by (λ x. f (g x)) xs
sum_by-map f g [] = refl
sum_by-map f g (x ∷ xs) = sum_by-cons f (g x) (map g xs) ∙ ap (λ n. f (g x) + n) (sum_by-map f g xs) ∙ sym (sum_by-cons (λ y. f (g y)) x xs)

pub flat_map-map : {X Y Z : Type 0} (f : Y → List Z) (g : X → Y) (xs : List X) → flat_map f (map g xs) ≡ flat_map (λ x. f (g x)) xs
flat_map-map f g [] = refl
flat_map-map f g (x ∷ xs) = ap (λ n. f (g x) ++ n) (flat_map-map f g xs)

pub map-back : {X Y : Type 0} (g : X → Y) (xs : List X) → map (λ (e : X × Y). e.0) (map (λ (x : X). (x, g x)) xs) ≡ xs
map-back g [] = refl
map-back g (x ∷ xs) = ap (λ n. x ∷ n) (map-back g xs)

each_of : (P : Plain → Type 0) (es : List ((x : Plain) × P x)) → Each P (map (λ e. e.0) es)
each_of P [] = tt
each_of P (e ∷ es) = (e.1, each_of P es)

-- induction over trees, by lists of children
pub by_trees : (P : Plain → Type 0) → ((t : List WSym) → P (unknown t)) → ((t : List WSym) (l : ℕ) (s : Pairs) (kids : List Plain) → Each P kids → P (known t l s kids)) → (x : Plain) → P x
by_trees P leaf node = F.ind-Plain P (λ x y is. subst (λ z. P (V.roll-Plain z)) is (step y))
  where
    step : (y : Plain-F ((x : Plain) × P x)) → P (V.roll-Plain (F.map-Plain ((x : Plain) × P x) Plain (λ e. e.0) y))
    step (L.Unknown t) = leaf t
    step (L.Known t l s es) = node t l s (map (λ e. e.0) es) (each_of P es)

pub size_of-unknown : (t : List WSym) → size_of (unknown t) ≡ 1
unfolding size_of
size_of-unknown t = F.fold-roll-Plain ℕ size_step (L.Unknown t)

pub size_of-known : (t : List WSym) (l : ℕ) (s : Pairs) (kids : List Plain) → size_of (known t l s kids) ≡ sum_by size_of kids + 1
unfolding size_of
size_of-known t l s kids = F.fold-roll-Plain ℕ size_step (L.Known t l s kids) ∙ ap (λ n. n + 1) (sum_by-map (λ n. n) size_of kids)

pub steps_of-unknown : (t : List WSym) → steps_of (unknown t) ≡ unknown t ∷ []
unfolding steps_of
steps_of-unknown t = F.para-roll-Plain (List Plain) steps_step (L.Unknown t)

pub steps_of-known : (t : List WSym) (l : ℕ) (s : Pairs) (kids : List Plain) → steps_of (known t l s kids) ≡ flat_map steps_of kids ++ (known t l s kids ∷ [])
unfolding steps_of
steps_of-known t l s kids = F.para-roll-Plain (List Plain) steps_step (L.Known t l s kids)
    ∙ ap (λ n. n ++ (known t l s (map (λ (e : Plain × List Plain). e.0) (map (λ (y : Plain). (y, steps_of y)) kids)) ∷ [])) (flat_map-map (λ (e : Plain × List Plain). e.1) (λ (y : Plain). (y, steps_of y)) kids)
    ∙ ap (λ n. flat_map steps_of kids ++ (known t l s n ∷ [])) (map-back steps_of kids)

pub depths_of-unknown : (t : List WSym) (d : ℕ) → depths_of (unknown t) d ≡ d ∷ []
unfolding depths_of
depths_of-unknown t d = ap (λ (f : ℕ → List ℕ). f d) (F.fold-roll-Plain (ℕ → List ℕ) depths_step (L.Unknown t))

pub depths_of-known : (t : List WSym) (l : ℕ) (s : Pairs) (kids : List Plain) (d : ℕ) → depths_of (known t l s kids) d ≡ flat_map (λ k. depths_of k (d + 1)) kids ++ (d ∷ [])
unfolding depths_of
depths_of-known t l s kids d = ap (λ (f : ℕ → List ℕ). f d) (F.fold-roll-Plain (ℕ → List ℕ) depths_step (L.Known t l s kids))
    ∙ ap (λ n. n ++ (d ∷ [])) (flat_map-map (λ (f : ℕ → List ℕ). f (d + 1)) depths_of kids)

put_among-kids : (kids : List Plain) (k : ℕ) (new : Plain) → put_among (map (λ (y : Plain). (y, put y)) kids) k new ≡ put_kids kids k new
put_among-kids [] k new = refl
put_among-kids (x ∷ xs) k new =
    ap (λ n. if nat_le k (size_of x) then (put x k new ∷ n) else (x ∷ put_among (map (λ (y : Plain). (y, put y)) xs) (k - size_of x) new)) (map-back put xs)
    ∙ ap (λ n. if nat_le k (size_of x) then (put x k new ∷ xs) else (x ∷ n)) (put_among-kids xs (k - size_of x) new)

pub put-unknown : (t : List WSym) (k : ℕ) (new : Plain) → put (unknown t) k new ≡ new
unfolding put
put-unknown t k new = ap (λ (f : ℕ → Plain → Plain). f k new) (F.para-roll-Plain (ℕ → Plain → Plain) put_step (L.Unknown t))

pub put-known : (t : List WSym) (l : ℕ) (s : Pairs) (kids : List Plain) (k : ℕ) (new : Plain)
    → put (known t l s kids) k new ≡ (if nat_le k (sum_by size_of kids) then known t l s (put_kids kids k new) else new)
unfolding put
put-known t l s kids k new = ap (λ (f : ℕ → Plain → Plain). f k new) (F.para-roll-Plain (ℕ → Plain → Plain) put_step (L.Known t l s kids))
    ∙ ap (λ n. if nat_le k n then known t l s (put_among (map (λ (y : Plain). (y, put y)) kids) k new) else new) (sum_by-map (λ (e : Plain × (ℕ → Plain → Plain)). size_of e.0) (λ (y : Plain). (y, put y)) kids)
    ∙ ap (λ n. if nat_le k (sum_by size_of kids) then known t l s n else new) (put_among-kids kids k new)

pub target_of-unknown : (t : List WSym) → target_of (unknown t) ≡ t
unfolding target_of
target_of-unknown t = ap target_step (V.out-roll-Plain (L.Unknown t))

pub target_of-known : (t : List WSym) (l : ℕ) (s : Pairs) (kids : List Plain) → target_of (known t l s kids) ≡ t
unfolding target_of
target_of-known t l s kids = ap target_step (V.out-roll-Plain (L.Known t l s kids))

lengths-kids : (kids : List Plain) → Each (λ x. length (steps_of x) ≡ size_of x) kids → length (flat_map steps_of kids) ≡ sum_by size_of kids
lengths-kids [] h = refl
lengths-kids (x ∷ xs) h = let ih = lengths-kids xs h.1 in
    ap length (flat_map-cons steps_of x xs) ∙ length-append (steps_of x) (flat_map steps_of xs) ∙ omega (arith, ih, h.0, sum_by-cons size_of x xs)

pub length-steps_of : (x : Plain) → length (steps_of x) ≡ size_of x
length-steps_of = by_trees (λ x. length (steps_of x) ≡ size_of x)
    (λ t. ap length (steps_of-unknown t) ∙ sym (size_of-unknown t))
    (λ t l s kids h. ap length (steps_of-known t l s kids) ∙ length-append (flat_map steps_of kids) (known t l s kids ∷ []) ∙ omega (arith, lengths-kids kids h, size_of-known t l s kids))

pub size_of-pos : (x : Plain) → 1 ≤ size_of x
size_of-pos = by_trees (λ x. 1 ≤ size_of x) (λ t. omega (arith, size_of-unknown t)) (λ t l s kids h. omega (arith, size_of-known t l s kids))

pub length-flat_map-steps_of : (kids : List Plain) → length (flat_map steps_of kids) ≡ sum_by size_of kids
length-flat_map-steps_of kids = length-flat_map steps_of kids ∙ ap (λ f. sum_by f kids) (λ i x. length-steps_of x i)

pub height_of-unknown : (t : List WSym) → height_of (unknown t) ≡ 1
unfolding height_of
height_of-unknown t = F.fold-roll-Plain ℕ height_step (L.Unknown t)

pub height_of-known : (t : List WSym) (l : ℕ) (s : Pairs) (kids : List Plain) → height_of (known t l s kids) ≡ greatest (map height_of kids) + 1
unfolding height_of
height_of-known t l s kids = F.fold-roll-Plain ℕ height_step (L.Known t l s kids)
