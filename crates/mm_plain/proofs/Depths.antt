-- The depth of a step is one more than its depth in the child that holds it.
use Rattle.std.proofs.Common.{◌≡◌, ℕ, ◌+◌, ◌-◌, ◌≤◌, ◌<◌, List, [], ◌∷◌, ◌++◌, map, length, get_or, refl, sym, ◌∙◌, ap, inl, inr, arith, length-append, add-one}
use Rattle.std.specs.List.{flat_map, sum_by}
use Rattle.std.proofs.lemmas.Bool.{cases_lt}
use Rattle.std.proofs.lemmas.List.Sums.{sum_by-cons}
use Rattle.std.proofs.lemmas.List.Concat.{flat_map-cons}
use Rattle.std.proofs.lemmas.List.{get_or_append_left, get_or-append_right, get_or-map}
use Rattle.mm_subst.specs.declared.symbol.WSym.{WSym}
use Rattle.mm_subst.specs.Substitutions.{Pairs}
use Rattle.mm_plain.specs.declared.plain.Plain.{Plain}
use Rattle.mm_plain.specs.Shape.{Each, known, size_of, depths_of, depth_at, seat}
use Rattle.mm_plain.proofs.Equations.{by_trees, size_of-known, size_of-unknown, depths_of-known, depths_of-unknown}
use Rattle.mm_plain.proofs.Trees.{seat-here, seat-later, kid-found, within-kids}

pub kids-length : (e : ℕ) (kids : List Plain) → Each (λ x. (d : ℕ) → length (depths_of x d) ≡ size_of x) kids → length (flat_map (λ x. depths_of x e) kids) ≡ sum_by size_of kids
kids-length e [] h = refl
kids-length e (x ∷ xs) h = ap length (flat_map-cons (λ x. depths_of x e) x xs) ∙ length-append (depths_of x e) (flat_map (λ x. depths_of x e) xs)
    ∙ omega (arith, kids-length e xs h.1, h.0 e, sum_by-cons size_of x xs)

pub length-depths_of : (x : Plain) (d : ℕ) → length (depths_of x d) ≡ size_of x
length-depths_of = by_trees (λ x. (d : ℕ) → length (depths_of x d) ≡ size_of x)
    (λ t d. ap length (depths_of-unknown t d) ∙ sym (size_of-unknown t))
    (λ t l s kids h d. ap length (depths_of-known t l s kids d) ∙ length-append (flat_map (λ k. depths_of k (d + 1)) kids) (d ∷ [])
    ∙ omega (arith, kids-length (d + 1) kids h, size_of-known t l s kids))

pub all-lengths : (kids : List Plain) → Each (λ x. (d : ℕ) → length (depths_of x d) ≡ size_of x) kids
all-lengths [] = tt
all-lengths (x ∷ xs) = (length-depths_of x, all-lengths xs)

abbrev pub up : ℕ → ℕ
up n = n + 1

map-append : (xs ys : List ℕ) → map up (xs ++ ys) ≡ map up xs ++ map up ys
map-append [] ys = refl
map-append (x ∷ xs) ys = ap (λ (n : List ℕ). up x ∷ n) (map-append xs ys)

kids-shift : (e : ℕ) (kids : List Plain) → Each (λ x. (d : ℕ) → depths_of x (d + 1) ≡ map up (depths_of x d)) kids
    → flat_map (λ x. depths_of x (e + 1)) kids ≡ map up (flat_map (λ x. depths_of x e) kids)
kids-shift e [] h = refl
kids-shift e (x ∷ xs) h = flat_map-cons (λ x. depths_of x (e + 1)) x xs
    ∙ ap (λ (n : List ℕ). n ++ flat_map (λ x. depths_of x (e + 1)) xs) (h.0 e)
    ∙ ap (λ (n : List ℕ). map up (depths_of x e) ++ n) (kids-shift e xs h.1)
    ∙ sym (map-append (depths_of x e) (flat_map (λ x. depths_of x e) xs))
    ∙ ap (map up) (sym (flat_map-cons (λ x. depths_of x e) x xs))

pub depths-shift : (x : Plain) (d : ℕ) → depths_of x (d + 1) ≡ map up (depths_of x d)
depths-shift = by_trees (λ x. (d : ℕ) → depths_of x (d + 1) ≡ map up (depths_of x d))
    (λ t d. depths_of-unknown t (d + 1) ∙ sym (ap (map up) (depths_of-unknown t d)))
    (λ t l s kids h d. depths_of-known t l s kids (d + 1)
    ∙ ap (λ (n : List ℕ). n ++ ((d + 1) ∷ [])) (kids-shift (d + 1) kids h)
    ∙ sym (map-append (flat_map (λ x. depths_of x (d + 1)) kids) (d ∷ []))
    ∙ sym (ap (map up) (depths_of-known t l s kids d)))

seat-depth : (e : ℕ) (xs : List Plain) (k : ℕ) (d : Plain) → 1 ≤ k → k ≤ sum_by size_of xs
    → get_or (flat_map (λ x. depths_of x e) xs) (k - 1) 0 ≡ get_or (depths_of (get_or xs (seat xs k).0 d) e) ((seat xs k).1 - 1) 0
seat-depth e [] k d h g = absurd (omega arith)
seat-depth e (x ∷ xs) k d h g = elim (cases_lt (size_of x) k) [
  | inr here ↦ ap (λ (n : List ℕ). get_or n (k - 1) 0) (flat_map-cons (λ x. depths_of x e) x xs)
      ∙ get_or_append_left (depths_of x e) (flat_map (λ x. depths_of x e) xs) 0 (k - 1) (omega (arith, length-depths_of x e))
      ∙ ap (λ (p : ℕ × ℕ). get_or (depths_of (get_or (x ∷ xs) p.0 d) e) (p.1 - 1) 0) (sym (seat-here x xs k here))
  | inl later ↦ ap (λ (n : List ℕ). get_or n (k - 1) 0) (flat_map-cons (λ x. depths_of x e) x xs)
      ∙ get_or-append_right (depths_of x e) (flat_map (λ x. depths_of x e) xs) (size_of x) (k - 1) 0 (length-depths_of x e) (omega arith)
      ∙ (let z : k - 1 - size_of x ≡ k - size_of x - 1 = omega arith in ap (λ (n : ℕ). get_or (flat_map (λ x. depths_of x e) xs) n 0) z)
      ∙ seat-depth e xs (k - size_of x) d (omega arith) (omega (arith, sum_by-cons size_of x xs))
      ∙ later-seat x xs k later
]
  where
    later-seat : (x : Plain) (xs : List Plain) (k : ℕ) → size_of x < k
        → get_or (depths_of (get_or xs (seat xs (k - size_of x)).0 d) e) ((seat xs (k - size_of x)).1 - 1) 0 ≡ get_or (depths_of (get_or (x ∷ xs) (seat (x ∷ xs) k).0 d) e) ((seat (x ∷ xs) k).1 - 1) 0
    later-seat x xs k later = rw (seat-later x xs k later, add-one) refl

-- a step of a child, seen from its parent
pub depth-kid : (t : List WSym) (l : ℕ) (s : Pairs) (xs : List Plain) (k i left : ℕ) (d : Plain) → (i, left) ≡ seat xs k → 1 ≤ k → k ≤ sum_by size_of xs
    → 1 ≤ left → left ≤ size_of (get_or xs i d)
    → get_or (depths_of (known t l s xs) 0) (k - 1) 0 ≡ get_or (depths_of (get_or xs i d) 0) (left - 1) 0 + 1
depth-kid t l s xs k i left d e h g f j =
    ap (λ (n : List ℕ). get_or n (k - 1) 0) (depths_of-known t l s xs 0)
    ∙ get_or_append_left (flat_map (λ x. depths_of x (0 + 1)) xs) (0 ∷ []) 0 (k - 1) (omega (arith, kids-length (0 + 1) xs (all-lengths xs)))
    ∙ seat-depth (0 + 1) xs k d h g
    ∙ ap (λ (p : ℕ × ℕ). get_or (depths_of (get_or xs p.0 d) (0 + 1)) (p.1 - 1) 0) (sym e)
    ∙ ap (λ (n : List ℕ). get_or n (left - 1) 0) (depths-shift (get_or xs i d) 0)
    ∙ get_or-map up (depths_of (get_or xs i d) 0) (left - 1) 0 0 (omega (arith, length-depths_of (get_or xs i d) 0))

pub kid-depth : (t : List WSym) (l : ℕ) (sg : Pairs) (xs : List Plain) (k i left : ℕ) (d : Plain)
    → (i, left) ≡ seat xs k → 1 ≤ k → k ≤ size_of (known t l sg xs) → i < length xs → d ≡ get_or xs i d → depth_at (known t l sg xs) k ≡ depth_at d left + 1
kid-depth t l sg xs k i left d e h f g is =
    let q = (kid-found t l sg xs k i left d e h f g is).kid in
    let w1 = q.first in let w2 = q.last in
    depth-kid t l sg xs k i left d e h (within-kids xs k i left e g) w1 (omega (arith, ap size_of is)) ∙ ap (λ (n : Plain). depth_at n left + 1) (sym is)
