-- The children of a step, by the numbers that they have in the whole; a tree put in the place of one that was put before.
use Rattle.std.proofs.Common.{zero, suc, ◌≡◌, ℕ, ◌+◌, ◌-◌, ◌≤◌, ◌<◌, List, [], ◌∷◌, length, take, drop, get_or, set, refl, sym, ◌∙◌, ap, inl, inr, arith, add-one}
use Rattle.std.specs.List.{sum_by}
use Rattle.std.proofs.lemmas.Bool.{cases_lt}
use Rattle.std.proofs.lemmas.List.Sums.{sum_by-cons, sum_by-append}
use Rattle.std.proofs.lemmas.List.{take-append-drop}
use Rattle.mm_subst.specs.declared.symbol.WSym.{WSym}
use Rattle.mm_subst.specs.Substitutions.{Pairs}
use Rattle.mm_plain.specs.declared.plain.Plain.{Plain}
use Rattle.mm_plain.specs.declared.plain.Plain.TheOpen as L
use Rattle.mm_plain.specs.declared.plain.Plain.TheViews as V
use Rattle.mm_plain.specs.Children.{children_layer, children_of}
use Rattle.mm_plain.specs.Shape.{Each, known, unknown, size_of, step_at, put, put_kids, seat, depth_at}
use Rattle.mm_plain.specs.Numbers.{number_in, number_of_child}
use Rattle.mm_plain.proofs.Equations.{by_trees, size_of-unknown, size_of-known, size_of-pos, put-unknown}
use Rattle.mm_plain.proofs.Trees.{IsSeat, seat-in, seat-here, seat-later, seat-found, at-kid, at-root, at-leaf, put-in, put-root, put_kids-here, put_kids-later}
use Rattle.mm_plain.proofs.Sizes.{size-put, depth-leaf, depth-root}
use Rattle.mm_plain.proofs.Depths.{depth-kid}
use Rattle.mm_plain.proofs.Walks.{each-at}
use Rattle.mm_plain.proofs.Nested.{around, around_kids, all_around, later_step, step_last, step-within, put-within}

pub put_last : (x new : Plain) → put x (size_of x) new ≡ new
put_last x new = by_trees (λ x. put x (size_of x) new ≡ new)
    (λ t. put-unknown t (size_of (unknown t)) new)
    (λ t l s kids e. put-root t l s kids (size_of (known t l s kids)) new (size_of-known t l s kids)) x

-- a tree put in the place of one that was put before

abbrev PutsAgain : Plain → Plain → Plain → Type 0
PutsAgain a b x = (k : ℕ) → 1 ≤ k → k ≤ size_of x → put (put x k a) (number_in x k (size_of a)) b ≡ put x k b

again_kids : (a b : Plain) (kids : List Plain) (k : ℕ) (d : Plain) → Each (PutsAgain a b) kids → 1 ≤ k → k ≤ sum_by size_of kids
    → put_kids (put_kids kids k a) (k - size_of (step_at (get_or kids (seat kids k).0 d) (seat kids k).1) + size_of a) b ≡ put_kids kids k b
again_kids a b [] k d e h g = absurd (omega arith)
again_kids a b (x ∷ xs) k d e h g = elim (cases_lt (size_of x) k) [
  | inr here ↦
      let is : step_at (get_or (x ∷ xs) (seat (x ∷ xs) k).0 d) (seat (x ∷ xs) k).1 ≡ step_at x k = ap (λ (p : ℕ × ℕ). step_at (get_or (x ∷ xs) p.0 d) p.1) (seat-here x xs k here) in
      let n : ℕ = number_in x k (size_of a) in
      ap (λ y. put_kids (put_kids (x ∷ xs) k a) (k - size_of y + size_of a) b) is
      ∙ ap (λ ys. put_kids ys n b) (put_kids-here x xs k a here)
      ∙ put_kids-here (put x k a) xs n b (omega (arith, size-put a x k h here, (around x k h here).number))
      ∙ ap (λ y. y ∷ xs) (e.0 k h here)
      ∙ sym (put_kids-here x xs k b here)
  | inl later ↦
      let left : ℕ = k - size_of x in
      let y : Plain = step_at (get_or xs (seat xs left).0 d) (seat xs left).1 in
      let is : step_at (get_or (x ∷ xs) (seat (x ∷ xs) k).0 d) (seat (x ∷ xs) k).1 ≡ y = ap (λ (p : ℕ × ℕ). step_at (get_or (x ∷ xs) p.0 d) p.1) (seat-later x xs k later) ∙ later_step x xs left d in
      let low : 1 ≤ left = omega arith in
      let high : left ≤ sum_by size_of xs = omega (arith, sum_by-cons size_of x xs) in
      let part : size_of y ≤ left = omega (arith, (around_kids xs left d (all_around xs) low high).number) in
      let some : 1 ≤ size_of a = size_of-pos a in
      let n : ℕ = k - size_of y + size_of a in
      let beyond : size_of x < n = omega arith in
      let same : n - size_of x ≡ left - size_of y + size_of a = omega arith in
      ap (λ z. put_kids (put_kids (x ∷ xs) k a) (k - size_of z + size_of a) b) is
      ∙ ap (λ ys. put_kids ys n b) (put_kids-later x xs k a later)
      ∙ put_kids-later x (put_kids xs left a) n b beyond
      ∙ ap (λ m. x ∷ put_kids (put_kids xs left a) m b) same
      ∙ ap (λ ys. x ∷ ys) (again_kids a b xs left d e.1 low high)
      ∙ sym (put_kids-later x xs k b later)
]

pub put-put : (a b x : Plain) (k : ℕ) → 1 ≤ k → k ≤ size_of x → put (put x k a) (number_in x k (size_of a)) b ≡ put x k b
put-put a b = by_trees (PutsAgain a b)
    (λ t k h g.
    let z : k ≡ 1 = omega (arith, size_of-unknown t) in
    let same : number_in (unknown t) k (size_of a) ≡ size_of a = omega (arith, size_of-unknown t, ap size_of (at-leaf t k z)) in
    ap (λ y. put y (number_in (unknown t) k (size_of a)) b) (put-unknown t k a) ∙ ap (λ n. put a n b) same ∙ put_last a b ∙ sym (put-unknown t k b))
    (λ t l s kids e k h g. elim (cases_lt (sum_by size_of kids) k) [
      | inr in_kids ↦
          let x : Plain = known t l s kids in
          let q = seat-in kids k (unknown []) h in_kids in
          let y : Plain = step_at (get_or kids (seat kids k).0 (unknown [])) (seat kids k).1 in
          let is : step_at x k ≡ y = at-kid t l s kids k (seat kids k).0 (seat kids k).1 (unknown []) q h in_kids in
          let n : ℕ = k - size_of y + size_of a in
          let changed : put x k a ≡ known t l s (put_kids kids k a) = put-in t l s kids k a in_kids in
          let fits : n ≤ sum_by size_of (put_kids kids k a) =
          omega (arith, size-put a x k h g, ap size_of is, ap size_of changed, size_of-known t l s (put_kids kids k a), size_of-known t l s kids, (around_kids kids k (unknown []) (all_around kids) h in_kids).number) in
          ap (λ z. put (put x k a) (k - size_of z + size_of a) b) is
          ∙ ap (λ z. put z n b) changed
          ∙ put-in t l s (put_kids kids k a) n b fits
          ∙ ap (known t l s) (again_kids a b kids k (unknown []) e h in_kids)
          ∙ sym (put-in t l s kids k b in_kids)
      | inl last ↦
          let x : Plain = known t l s kids in
          let z : k ≡ sum_by size_of kids + 1 = omega (arith, size_of-known t l s kids) in
          let same : number_in x k (size_of a) ≡ size_of a = omega (arith, size_of-known t l s kids, ap size_of (at-root t l s kids k z)) in
          ap (λ y. put y (number_in x k (size_of a)) b) (put-root t l s kids k a z) ∙ ap (λ n. put a n b) same ∙ put_last a b ∙ sym (put-root t l s kids k b z)
    ])

-- children by their numbers

seat_of_child : (kids : List Plain) (i : ℕ) (d : Plain) → i < length kids → seat kids (sum_by size_of (take (suc i) kids)) ≡ (i, size_of (get_or kids i d))
seat_of_child [] i d h = absurd (omega arith)
seat_of_child (x ∷ xs) zero d h =
    let z : sum_by size_of (take 1 (x ∷ xs)) ≡ size_of x = omega (arith, sum_by-cons size_of x []) in
    ap (seat (x ∷ xs)) z ∙ seat-here x xs (size_of x) (omega arith)
seat_of_child (x ∷ xs) (suc i) d h =
    let k : ℕ = sum_by size_of (take (suc (suc i)) (x ∷ xs)) in
    let more : k ≡ size_of x + sum_by size_of (take (suc i) xs) = sum_by-cons size_of x (take (suc i) xs) in
    let some : 1 ≤ sum_by size_of (take (suc i) xs) = some_below xs i (omega arith) in
    let same : k - size_of x ≡ sum_by size_of (take (suc i) xs) = omega arith in
    seat-later x xs k (omega arith)
    ∙ ap (λ n. ((seat xs n).0 + 1, (seat xs n).1)) same
    ∙ ap (λ (p : ℕ × ℕ). (p.0 + 1, p.1)) (seat_of_child xs i d (omega arith))
    ∙ (let up : i + 1 ≡ suc i = omega arith in ap (λ n. (n, size_of (get_or xs i d))) up)
  where
    some_below : (ys : List Plain) (j : ℕ) → j < length ys → 1 ≤ sum_by size_of (take (suc j) ys)
    some_below [] j less = absurd (omega arith)
    some_below (y ∷ ys) j less = omega (arith, sum_by-cons size_of y (take j ys), size_of-pos y)

take_le : (kids : List Plain) (i : ℕ) → sum_by size_of (take i kids) ≤ sum_by size_of kids
take_le kids zero = omega arith
take_le [] (suc i) = omega arith
take_le (x ∷ xs) (suc i) = omega (arith, sum_by-cons size_of x (take i xs), sum_by-cons size_of x xs, take_le xs i)

some_child : (ys : List Plain) (j : ℕ) → j < length ys → 1 ≤ number_of_child ys j
some_child [] j less = absurd (omega arith)
some_child (y ∷ ys) j less = rw add-one (omega (arith, sum_by-cons size_of y (take j ys), size_of-pos y))

pub child-seat : (kids : List Plain) (i : ℕ) (d : Plain) → i < length kids → IsSeat kids (number_of_child kids i) i (size_of (get_or kids i d)) d
child-seat kids i d h =
    let e : seat kids (number_of_child kids i) ≡ (i, size_of (get_or kids i d)) = rw add-one (seat_of_child kids i d h) in
    let some : 1 ≤ number_of_child kids i = some_child kids i h in
    seat-found kids (number_of_child kids i) i (size_of (get_or kids i d)) d (sym e) some h

pub child-number : (kids : List Plain) (i : ℕ) → i < length kids → (1 ≤ number_of_child kids i) × (number_of_child kids i ≤ sum_by size_of kids)
child-number kids i h = (some_child kids i h, take_le kids (i + 1))

-- the child stands at its number
pub child-step : (t : List WSym) (l : ℕ) (s : Pairs) (kids : List Plain) (i : ℕ) (d : Plain) → i < length kids → step_at (known t l s kids) (number_of_child kids i) ≡ get_or kids i d
child-step t l s kids i d h =
    let n = child-number kids i h in
    at-kid t l s kids (number_of_child kids i) i (size_of (get_or kids i d)) d (child-seat kids i d h) n.0 n.1 ∙ step_last (get_or kids i d)

-- and may be replaced there
pub child-put : (t : List WSym) (l : ℕ) (s : Pairs) (kids : List Plain) (i : ℕ) (d new : Plain) → i < length kids → put (known t l s kids) (number_of_child kids i) new ≡ known t l s (set kids i new)
child-put t l s kids i d new h =
    put-in t l s kids (number_of_child kids i) new (child-number kids i h).1
    ∙ ap (known t l s) ((child-seat kids i d h).puts new ∙ ap (set kids i) (put_last (get_or kids i d) new))

-- so it is in the whole
pub child-step_in : (x : Plain) (k : ℕ) (t : List WSym) (l : ℕ) (s : Pairs) (kids : List Plain) (i : ℕ) (d : Plain) → 1 ≤ k → k ≤ size_of x → step_at x k ≡ known t l s kids → i < length kids
    → step_at x (number_in x k (number_of_child kids i)) ≡ get_or kids i d
child-step_in x k t l s kids i d h g is less =
    let n = child-number kids i less in
    let high = n.1 in
    step-within x k (number_of_child kids i) h g n.0 (omega (arith, ap size_of is, size_of-known t l s kids))
    ∙ ap (λ y. step_at y (number_of_child kids i)) is ∙ child-step t l s kids i d less

pub child-put_in : (x : Plain) (k : ℕ) (t : List WSym) (l : ℕ) (s : Pairs) (kids : List Plain) (i : ℕ) (d new : Plain) → 1 ≤ k → k ≤ size_of x → step_at x k ≡ known t l s kids → i < length kids
    → put x (number_in x k (number_of_child kids i)) new ≡ put x k (known t l s (set kids i new))
child-put_in x k t l s kids i d new h g is less =
    let n = child-number kids i less in
    let high = n.1 in
    put-within new x k (number_of_child kids i) h g n.0 (omega (arith, ap size_of is, size_of-known t l s kids))
    ∙ ap (λ y. put x k (put y (number_of_child kids i) new)) is ∙ ap (put x k) (child-put t l s kids i d new less)

-- depths

abbrev DeepWithin : Plain → Type 0
DeepWithin x = (k j : ℕ) → 1 ≤ k → k ≤ size_of x → 1 ≤ j → j ≤ size_of (step_at x k) → depth_at x (number_in x k j) ≡ depth_at x k + depth_at (step_at x k) j

-- the part at a step among children
abbrev part_among : List Plain → ℕ → Plain → Plain
part_among kids k d = step_at (get_or kids (seat kids k).0 d) (seat kids k).1

-- the seat of a step of that part
abbrev SeatsWithin : List Plain → ℕ → ℕ → Plain → Type 0
SeatsWithin kids k j d = ((seat kids k).0, number_in (get_or kids (seat kids k).0 d) (seat kids k).1 j) ≡ seat kids (k - size_of (part_among kids k d) + j)

up : (x : Plain) (xs : List Plain) (d : Plain) (i r j : ℕ) → ◌≡◌ {A = ℕ × ℕ} (i + 1, number_in (get_or (x ∷ xs) (i + 1) d) r j) (i + 1, number_in (get_or xs i d) r j)
up x xs d i r j = rw add-one refl

within_here : (x : Plain) (xs : List Plain) (k j : ℕ) (d : Plain) → seat (x ∷ xs) k ≡ (0, k) → number_in x k j ≤ size_of x → SeatsWithin (x ∷ xs) k j d
within_here x xs k j d e small =
    ap (λ (p : ℕ × ℕ). (p.0, number_in (get_or (x ∷ xs) p.0 d) p.1 j)) e
    ∙ sym (seat-here x xs (number_in x k j) small)
    ∙ ap (λ (p : ℕ × ℕ). seat (x ∷ xs) (k - size_of (step_at (get_or (x ∷ xs) p.0 d) p.1) + j)) (sym e)

within_later : (x : Plain) (xs : List Plain) (k j left : ℕ) (d y : Plain) → seat (x ∷ xs) k ≡ ((seat xs left).0 + 1, (seat xs left).1) → part_among (x ∷ xs) k d ≡ y
    → size_of x < k - size_of y + j → k - size_of y + j - size_of x ≡ left - size_of y + j
    → ((seat xs left).0, number_in (get_or xs (seat xs left).0 d) (seat xs left).1 j) ≡ seat xs (left - size_of y + j) → SeatsWithin (x ∷ xs) k j d
within_later x xs k j left d y e is beyond same below =
    ap (λ (p : ℕ × ℕ). (p.0, number_in (get_or (x ∷ xs) p.0 d) p.1 j)) e
    ∙ up x xs d (seat xs left).0 (seat xs left).1 j
    ∙ ap (λ (p : ℕ × ℕ). (p.0 + 1, p.1)) below
    ∙ ap (λ n. ((seat xs n).0 + 1, (seat xs n).1)) (sym same)
    ∙ sym (seat-later x xs (k - size_of y + j) beyond)
    ∙ ap (λ z. seat (x ∷ xs) (k - size_of z + j)) (sym is)

seat-within : (kids : List Plain) (k j : ℕ) (d : Plain) → 1 ≤ k → k ≤ sum_by size_of kids → 1 ≤ j → j ≤ size_of (part_among kids k d) → SeatsWithin kids k j d
seat-within [] k j d h g f m = absurd (omega arith)
seat-within (x ∷ xs) k j d h g f m = elim (cases_lt (size_of x) k) [
  | inr here ↦
      let e = seat-here x xs k here in
      let small = ap (λ (p : ℕ × ℕ). size_of (step_at (get_or (x ∷ xs) p.0 d) p.1)) e in
      within_here x xs k j d e (omega (arith, m, small, (around x k h here).number))
  | inl later ↦
      let e = seat-later x xs k later in
      let is = ap (λ (p : ℕ × ℕ). step_at (get_or (x ∷ xs) p.0 d) p.1) e ∙ later_step x xs (k - size_of x) d in
      let low : 1 ≤ k - size_of x = omega arith in
      let high : k - size_of x ≤ sum_by size_of xs = omega (arith, sum_by-cons size_of x xs) in
      let part = (around_kids xs (k - size_of x) d (all_around xs) low high).number in
      within_later x xs k j (k - size_of x) d (part_among xs (k - size_of x) d) e is (omega (arith, part)) (omega (arith, part))
      (seat-within xs (k - size_of x) j d low high f (omega (arith, m, ap size_of is)))
]

pub depth-within : (x : Plain) (k j : ℕ) → 1 ≤ k → k ≤ size_of x → 1 ≤ j → j ≤ size_of (step_at x k) → depth_at x (number_in x k j) ≡ depth_at x k + depth_at (step_at x k) j
depth-within = by_trees DeepWithin
    (λ t k j h g f m.
    let z : k ≡ 1 = omega (arith, size_of-unknown t) in
    let is = at-leaf t k z in
    let y : j ≡ 1 = omega (arith, ap size_of is, size_of-unknown t) in
    let n : number_in (unknown t) k j ≡ 1 = omega (arith, ap size_of is, size_of-unknown t) in
    omega (arith, depth-leaf t (number_in (unknown t) k j) n, depth-leaf t k z, ap (λ u. depth_at u j) is, depth-leaf t j y))
    (λ t l s kids e k j h g f m. elim (cases_lt (sum_by size_of kids) k) [
      | inr in_kids ↦
          let x : Plain = known t l s kids in
          let i : ℕ = (seat kids k).0 in
          let left : ℕ = (seat kids k).1 in
          let kid : Plain = get_or kids i (unknown []) in
          let q = seat-in kids k (unknown []) h in_kids in
          let w1 = q.first in
          let w2 = q.last in
          let y : Plain = step_at kid left in
          let is : step_at x k ≡ y = at-kid t l s kids k i left (unknown []) q h in_kids in
          let small : j ≤ size_of y = omega (arith, ap size_of is) in
          let part : size_of y ≤ left = omega (arith, (around kid left w1 w2).number) in
          let part_all : size_of y ≤ k = omega (arith, (around_kids kids k (unknown []) (all_around kids) h in_kids).number) in
          omega (
            arith,
            ap (λ z. depth_at x (k - size_of z + j)) is,
            depth-kid t l s kids (k - size_of y + j) i (number_in kid left j) (unknown []) (seat-within kids k j (unknown []) h in_kids f small) (omega arith) (omega arith) (omega arith) (omega arith),
            each-at DeepWithin kids i (unknown []) e q.within left j w1 w2 f small,
            depth-kid t l s kids k i left (unknown []) refl h in_kids w1 w2,
            ap (λ z. depth_at z j) is,
          )
      | inl last ↦
          let x : Plain = known t l s kids in
          let z : k ≡ sum_by size_of kids + 1 = omega (arith, size_of-known t l s kids) in
          let is : step_at x k ≡ x = at-root t l s kids k z in
          let same : number_in x k j ≡ j = omega (arith, size_of-known t l s kids, ap size_of is) in
          omega (arith, ap (depth_at x) same, depth-root t l s kids k z, ap (λ y. depth_at y j) is)
    ])

-- the children of a step, and one of them by the steps behind it

pub children_of-unknown : (t : List WSym) → children_of (unknown t) ≡ []
unfolding children_of
children_of-unknown t = ap children_layer (V.out-roll-Plain (L.Unknown t))

pub children_of-known : (t : List WSym) (l : ℕ) (s : Pairs) (kids : List Plain) → children_of (known t l s kids) ≡ kids
unfolding children_of
children_of-known t l s kids = ap children_layer (V.out-roll-Plain (L.Known t l s kids))

abbrev IsBehind : Plain → ℕ → ℕ → ℕ → Plain → Plain → Type 0
IsBehind x k j n d y = step_at x k ≡ y → j ≤ length (children_of y) → n + sum_by size_of (drop j (children_of y)) + 1 ≡ k → (1 ≤ n) × (step_at x n ≡ get_or (children_of y) (j - 1) d)

pub child-behind : (x : Plain) (k j n : ℕ) (d : Plain) → 1 ≤ k → k ≤ size_of x → 1 ≤ j → (y : Plain) → IsBehind x k j n d y
child-behind x k j n d h g f = by_trees (IsBehind x k j n d)
    (λ t is m e. absurd (omega (arith, ap length (children_of-unknown t))))
    (λ t l s kids ih is m e.
    let c : children_of (known t l s kids) ≡ kids = children_of-known t l s kids in
    let a = around x k h g in
    let number = a.number in
    let i : j - 1 + 1 ≡ j = omega arith in
    let less : j - 1 < length kids = omega (arith, ap length c) in
    let z : number_in x k (number_of_child kids (j - 1)) ≡ n = omega (
      arith,
      ap (λ m. sum_by size_of (take m kids)) i,
      sum_by-append size_of (take j kids) (drop j kids),
      ap (sum_by size_of) (take-append-drop j kids),
      ap (λ ks. sum_by size_of (drop j ks)) c,
      ap size_of is,
      size_of-known t l s kids,
    ) in
    let first = (child-number kids (j - 1) less).0 in
    (omega (arith, z), ap (step_at x) (sym z) ∙ child-step_in x k t l s kids (j - 1) d h g is less ∙ ap (λ ks. get_or ks (j - 1) d) (sym c)))
