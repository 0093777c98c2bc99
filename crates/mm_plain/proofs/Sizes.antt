-- The size and the height of a tree in which one step is replaced.
use Rattle.std.proofs.Common.{◌≡◌, ℕ, ◌+◌, ◌-◌, ◌≤◌, max, List, [], ◌∷◌, map, get_or, refl, sym, ◌∙◌, ap, inl, inr, arith, add-one}
use Rattle.std.specs.List.{flat_map, sum_by}
use Rattle.std.proofs.lemmas.Bool.{cases_lt}
use Rattle.std.proofs.lemmas.List.Sums.{sum_by-cons}
use Rattle.std.proofs.lemmas.List.{get_or-append_right}
use Rattle.mm_subst.specs.declared.symbol.WSym.{WSym}
use Rattle.mm_subst.specs.Substitutions.{Pairs}
use Rattle.mm_plain.specs.declared.plain.Plain.{Plain}
use Rattle.mm_plain.specs.Shape.{Each, unknown, known, size_of, put, put_kids, seat, step_at, depths_of, height_of, depth_at, greatest}
use Rattle.mm_plain.proofs.Equations.{by_trees, size_of-known, size_of-unknown, put-unknown, depths_of-unknown, depths_of-known, height_of-known, height_of-unknown, size_of-pos}
use Rattle.mm_plain.proofs.Trees.{seat-in, at-kid, at-root, at-leaf, put-in, put-root, put_kids-here, put_kids-later, seat-here, seat-later}
use Rattle.mm_plain.proofs.Depths.{depth-kid, kids-length, all-lengths}

abbrev SizeLaw : Plain → Plain → Type 0
SizeLaw new x = (k : ℕ) → 1 ≤ k → k ≤ size_of x → size_of (put x k new) + size_of (step_at x k) ≡ size_of x + size_of new

-- among children
size-kids : (new : Plain) (kids : List Plain) (k : ℕ) (d : Plain) → Each (SizeLaw new) kids → 1 ≤ k → k ≤ sum_by size_of kids
    → sum_by size_of (put_kids kids k new) + size_of (step_at (get_or kids (seat kids k).0 d) (seat kids k).1) ≡ sum_by size_of kids + size_of new
size-kids new [] k d e h g = absurd (omega arith)
size-kids new (x ∷ xs) k d e h g = elim (cases_lt (size_of x) k) [
  | inr here ↦
      let p = ap (sum_by size_of) (put_kids-here x xs k new here) in
      let q = ap (λ (p : ℕ × ℕ). size_of (step_at (get_or (x ∷ xs) p.0 d) p.1)) (seat-here x xs k here) in
      omega (arith, p, q, sum_by-cons size_of (put x k new) xs, sum_by-cons size_of x xs, e.0 k h here)
  | inl later ↦
      let p = ap (sum_by size_of) (put_kids-later x xs k new later) in
      let q = ap (λ (p : ℕ × ℕ). size_of (step_at (get_or (x ∷ xs) p.0 d) p.1)) (seat-later x xs k later) in
      let r : size_of (step_at (get_or (x ∷ xs) ((seat xs (k - size_of x)).0 + 1) d) (seat xs (k - size_of x)).1) ≡ size_of (step_at (get_or xs (seat xs (k - size_of x)).0 d) (seat xs (k - size_of x)).1) = rw add-one refl in
      omega (
        arith,
        p,
        q,
        r,
        sum_by-cons size_of x (put_kids xs (k - size_of x) new),
        sum_by-cons size_of x xs,
        size-kids new xs (k - size_of x) d e.1 (omega arith) (omega (arith, sum_by-cons size_of x xs)),
      )
]

pub size-put : (new x : Plain) → SizeLaw new x
size-put new = by_trees (SizeLaw new)
    (λ t k h g. let z : k ≡ 1 = omega (arith, size_of-unknown t) in omega (arith, ap size_of (put-unknown t k new), ap size_of (at-leaf t k z)))
    (λ t l s kids e k h g. elim (cases_lt (sum_by size_of kids) k) [
      | inr in_kids ↦ let q = seat-in kids k (unknown []) h in_kids in
          omega (
            arith,
            size-kids new kids k (unknown []) e h in_kids,
            ap size_of (put-in t l s kids k new in_kids),
            size_of-known t l s (put_kids kids k new),
            size_of-known t l s kids,
            ap size_of (at-kid t l s kids k (seat kids k).0 (seat kids k).1 (unknown []) q h in_kids),
          )
      | inl root ↦ let z : k ≡ sum_by size_of kids + 1 = omega (arith, size_of-known t l s kids) in
          omega (arith, ap size_of (put-root t l s kids k new z), ap size_of (at-root t l s kids k z))
    ])

-- an unknown step, or any other without children, that is replaced
abbrev HeightLaw : Plain → Plain → Type 0
HeightLaw new x = (k : ℕ) → 1 ≤ k → k ≤ size_of x → size_of (step_at x k) ≡ 1 → height_of (put x k new) ≡ max (height_of x) (depth_at x k + height_of new)

height-kids : (new : Plain) (kids : List Plain) (k : ℕ) (d : Plain) → Each (HeightLaw new) kids → 1 ≤ k → k ≤ sum_by size_of kids
    → size_of (step_at (get_or kids (seat kids k).0 d) (seat kids k).1) ≡ 1
    → greatest (map height_of (put_kids kids k new)) ≡ max (greatest (map height_of kids)) (depth_at (get_or kids (seat kids k).0 d) (seat kids k).1 + height_of new)
height-kids new [] k d e h g f = absurd (omega arith)
height-kids new (x ∷ xs) k d e h g f = elim (cases_lt (size_of x) k) [
  | inr here ↦
      let p = ap (λ (l : List Plain). greatest (map height_of l)) (put_kids-here x xs k new here) in
      let q = ap (λ (p : ℕ × ℕ). size_of (step_at (get_or (x ∷ xs) p.0 d) p.1)) (seat-here x xs k here) in
      let r = ap (λ (p : ℕ × ℕ). depth_at (get_or (x ∷ xs) p.0 d) p.1) (seat-here x xs k here) in
      let i = e.0 k h here (sym q ∙ f) in
      omega (arith, p, r, i)
  | inl later ↦
      let p = ap (λ (l : List Plain). greatest (map height_of l)) (put_kids-later x xs k new later) in
      let q = ap (λ (p : ℕ × ℕ). size_of (step_at (get_or (x ∷ xs) p.0 d) p.1)) (seat-later x xs k later) in
      let q2 : size_of (step_at (get_or (x ∷ xs) ((seat xs (k - size_of x)).0 + 1) d) (seat xs (k - size_of x)).1) ≡ size_of (step_at (get_or xs (seat xs (k - size_of x)).0 d) (seat xs (k - size_of x)).1) = rw add-one refl in
      let r = ap (λ (p : ℕ × ℕ). depth_at (get_or (x ∷ xs) p.0 d) p.1) (seat-later x xs k later) in
      let r2 : depth_at (get_or (x ∷ xs) ((seat xs (k - size_of x)).0 + 1) d) (seat xs (k - size_of x)).1 ≡ depth_at (get_or xs (seat xs (k - size_of x)).0 d) (seat xs (k - size_of x)).1 = rw add-one refl in
      let i = height-kids new xs (k - size_of x) d e.1 (omega arith) (omega (arith, sum_by-cons size_of x xs)) (sym q2 ∙ sym q ∙ f) in
      omega (arith, p, r, r2, i)
]

pub height_of-pos : (x : Plain) → 1 ≤ height_of x
height_of-pos = by_trees (λ x. 1 ≤ height_of x) (λ t. omega (arith, height_of-unknown t)) (λ t l s kids h. omega (arith, height_of-known t l s kids))

no-kids : (kids : List Plain) → sum_by size_of kids ≡ 0 → greatest (map height_of kids) ≡ 0
no-kids [] h = refl
no-kids (x ∷ xs) h = absurd (omega (arith, sum_by-cons size_of x xs, size_of-pos x))

pub depth-leaf : (t : List WSym) (k : ℕ) → k ≡ 1 → depth_at (unknown t) k ≡ 0
depth-leaf t k z = ap (λ (l : List ℕ). get_or l (k - 1) 0) (depths_of-unknown t 0) ∙ (let y : k - 1 ≡ 0 = omega arith in ap (λ (n : ℕ). get_or (0 ∷ []) n 0) y)

pub depth-root : (t : List WSym) (l : ℕ) (s : Pairs) (kids : List Plain) (k : ℕ) → k ≡ sum_by size_of kids + 1 → depth_at (known t l s kids) k ≡ 0
depth-root t l s kids k z = ap (λ (n : List ℕ). get_or n (k - 1) 0) (depths_of-known t l s kids 0)
    ∙ get_or-append_right (flat_map (λ x. depths_of x (0 + 1)) kids) (0 ∷ []) (sum_by size_of kids) (k - 1) 0 (kids-length (0 + 1) kids (all-lengths kids)) (omega arith)
    ∙ (let y : k - 1 - sum_by size_of kids ≡ 0 = omega arith in ap (λ (n : ℕ). get_or (0 ∷ []) n 0) y)

pub height-put : (new x : Plain) → HeightLaw new x
height-put new = by_trees (HeightLaw new)
    (λ t k h g f. let z : k ≡ 1 = omega (arith, size_of-unknown t) in
    omega (arith, ap height_of (put-unknown t k new), depth-leaf t k z, height_of-unknown t, height_of-pos new))
    (λ t l s kids e k h g f. elim (cases_lt (sum_by size_of kids) k) [
      | inr in_kids ↦ let q = seat-in kids k (unknown []) h in_kids in
          let w1 = q.first in let w2 = q.last in
          omega (
            arith,
            height-kids new kids k (unknown []) e h in_kids (sym (ap size_of (at-kid t l s kids k (seat kids k).0 (seat kids k).1 (unknown []) q h in_kids)) ∙ f),
            ap height_of (put-in t l s kids k new in_kids),
            height_of-known t l s (put_kids kids k new),
            height_of-known t l s kids,
            depth-kid t l s kids k (seat kids k).0 (seat kids k).1 (unknown []) refl h in_kids w1 w2,
          )
      | inl root ↦ let z : k ≡ sum_by size_of kids + 1 = omega (arith, size_of-known t l s kids) in
          let y : sum_by size_of kids ≡ 0 = omega (arith, f, ap size_of (at-root t l s kids k z), size_of-known t l s kids) in
          omega (arith, ap height_of (put-root t l s kids k new z), depth-root t l s kids k z, height_of-known t l s kids, no-kids kids y, height_of-pos new)
    ])

-- a tree has no more levels than steps
greatest-le : (kids : List Plain) → Each (λ x. height_of x ≤ size_of x) kids → greatest (map height_of kids) ≤ sum_by size_of kids
greatest-le [] h = omega arith
greatest-le (x ∷ xs) h = let one = h.0 in omega (arith, greatest-le xs h.1, sum_by-cons size_of x xs)

pub height-le-size : (x : Plain) → height_of x ≤ size_of x
height-le-size = by_trees
    (λ x. height_of x ≤ size_of x)
    (λ t. omega (arith, height_of-unknown t, size_of-unknown t))
    (λ t l s kids h. omega (arith, height_of-known t l s kids, size_of-known t l s kids, greatest-le kids h))

all-low : (kids : List Plain) → Each (λ x. height_of x ≤ size_of x) kids
all-low [] = tt
all-low (x ∷ xs) = (height-le-size x, all-low xs)

pub heights-le-sizes : (kids : List Plain) → greatest (map height_of kids) ≤ sum_by size_of kids
heights-le-sizes kids = greatest-le kids (all-low kids)
