-- A step that names another statement, over what fits of the trees of its children: one tree, made in two ways.
use Rattle.std.proofs.Common.{◌≡◌, ℕ, ◌+◌, ◌-◌, ◌≤◌, List, [], ◌∷◌, map, length, refl, sym, ◌∙◌, ap, arith}
use Rattle.mm_subst.specs.declared.symbol.WSym.{WSym}
use Rattle.mm_subst.specs.Substitutions.{Pairs, applied, with_values}
use Rattle.mm_plain.specs.Binding.{bound}
use Rattle.mm_plain.specs.declared.plain.Plain.{Plain}
use Rattle.mm_plain.specs.declared.plain.Plain.TheOpen as L
use Rattle.mm_plain.specs.declared.plain.Plain.TheViews as V
use Rattle.mm_plain.specs.Numbers.{number_in}
use Rattle.mm_plain.specs.Shape.{known, placed, put, size_of, step_at, target_of, unknown, unknowns}
use Rattle.mm_plain.proofs.Binding.{bound-known, bound-unknown, put-bound, size_of-bound, step_at-bound}
use Rattle.mm_plain.proofs.Children.{put-put}
use Rattle.mm_plain.proofs.Equations.{size_of-known, target_of-unknown}
use Rattle.mm_plain.proofs.Nested.{step-put_root}
use Rattle.mm_plain.proofs.Puts.{size-before}
use Rattle.mm_tree.specs.Replacing.{first_with, refilled_layer, refilled}
use Rattle.mm_tree.proofs.Grown.{size-unknowns}

pub refilled-unknown : (olds : List Plain) (t : List WSym) → refilled olds (unknown t) ≡ unknown t
unfolding refilled
refilled-unknown olds t = ap (refilled_layer olds) (V.out-roll-Plain (L.Unknown t))

pub refilled-known : (olds : List Plain) (t : List WSym) (l : ℕ) (s : Pairs) (kids : List Plain) → refilled olds (known t l s kids) ≡ known t l s (map (λ y. first_with olds (target_of y)) kids)
unfolding refilled
refilled-known olds t l s kids = ap (refilled_layer olds) (V.out-roll-Plain (L.Known t l s kids))

-- the children of unknown steps under theta
kids-refilled : (olds : List Plain) (theta sigma : Pairs) (hs : List (List WSym))
    → map (λ (y : Plain). first_with olds (target_of y)) (map (bound theta) (unknowns sigma hs)) ≡ map (λ (g : List WSym). first_with olds (applied theta g)) (map (applied sigma) hs)
kids-refilled olds theta sigma [] = refl
kids-refilled olds theta sigma (h ∷ hs) =
    ap (λ (t : List WSym). first_with olds t ∷ map (λ (y : Plain). first_with olds (target_of y)) (map (bound theta) (unknowns sigma hs))) (ap target_of (bound-unknown theta (applied sigma h)) ∙ target_of-unknown (applied theta (applied sigma h)))
    ∙ ap (λ (ys : List Plain). first_with olds (applied theta (applied sigma h)) ∷ ys) (kids-refilled olds theta sigma hs)

pub refilled-so : (theta sigma : Pairs) (x : Plain) (k id m : ℕ) (t : List WSym) (hs : List (List WSym)) (kids olds : List Plain) → 1 ≤ k → k ≤ size_of x → t ≡ target_of (step_at x k)
    → m ≡ ((k + 1) - size_of (step_at x k)) + length hs
    → map (bound theta) kids ≡ map (λ (g : List WSym). first_with olds (applied theta g)) (map (applied sigma) hs)
    → bound theta (put x k (known t id sigma kids)) ≡ put (bound theta (placed x k id sigma hs)) m (refilled olds (step_at (bound theta (placed x k id sigma hs)) m))
refilled-so theta sigma x k id m t hs kids olds h g target number made =
    let b : Plain = bound theta x in
    let u : List WSym = target_of (step_at x k) in
    let over : Plain = known u id sigma (unknowns sigma hs) in
    let over-b : Plain = bound theta over in
    let new : Plain = known t id sigma kids in
    let long : k ≤ size_of b = omega (arith, g, size_of-bound theta x) in
    let before = size-before x k h g in
    let size : size_of over-b ≡ length hs + 1 = omega (arith, size_of-bound theta over, size_of-known u id sigma (unknowns sigma hs), size-unknowns sigma hs) in
    let part : size_of (step_at b k) ≡ size_of (step_at x k) = ap size_of (step_at-bound theta x k) ∙ size_of-bound theta (step_at x k) in
    let at : number_in b k (size_of over-b) ≡ m = omega (arith, number, size, part, before) in
    let whole : bound theta (placed x k id sigma hs) ≡ put b k over-b = put-bound theta over x k in
    let there : step_at (put b k over-b) m ≡ over-b = ap (step_at (put b k over-b)) (sym at) ∙ step-put_root over-b b k h long in
    let same : refilled olds over-b ≡ bound theta new
    = ap (refilled olds) (bound-known theta u id sigma (unknowns sigma hs))
    ∙ refilled-known olds (applied theta u) id (with_values theta sigma) (map (bound theta) (unknowns sigma hs))
    ∙ ap (known (applied theta u) id (with_values theta sigma)) (kids-refilled olds theta sigma hs ∙ sym made)
    ∙ ap (λ (v : List WSym). known (applied theta v) id (with_values theta sigma) (map (bound theta) kids)) (sym target)
    ∙ sym (bound-known theta t id sigma kids) in
    put-bound theta new x k
    ∙ sym (put-put over-b (bound theta new) b k h long)
    ∙ ap (λ (n : ℕ). put (put b k over-b) n (bound theta new)) at
    ∙ ap (put (put b k over-b) m) (sym same)
    ∙ ap (λ (y : Plain). put (put b k over-b) m (refilled olds y)) (sym there)
    ∙ ap (λ (y : Plain). put y m (refilled olds (step_at y m))) (sym whole)
