-- The steps of a tree in which a step is replaced: those before it, those of the new tree, and those after it.
use Rattle.std.proofs.Common.{◌≡◌, ℕ, zero, suc, ◌+◌, ◌-◌, ◌≤◌, ◌<◌, List, [], ◌∷◌, ◌++◌, map, length, get_or, Option, refl, sym, ◌∙◌, ap, subst, inl, inr, arith, append_assoc, append-nil, length-append, add-one}
use Rattle.std.specs.List.{flat_map, sum_by}
use Rattle.std.proofs.lemmas.Bool.{cases_lt}
use Rattle.std.proofs.lemmas.List.{map-append, get_or_append_left, get_or-append_right}
use Rattle.std.proofs.lemmas.List.Concat.{flat_map-cons}
use Rattle.std.proofs.lemmas.List.Sums.{sum_by-cons}
use Rattle.mm_subst.specs.declared.symbol.WSym.{WSym}
use Rattle.mm_subst.specs.Substitutions.{Pairs}
use Rattle.mm_plain.specs.declared.plain.Plain.{Plain}
use Rattle.mm_plain.specs.Shape.{Each, unknown, known, size_of, steps_of, step_at, put, put_kids, seat, target_of}
use Rattle.mm_plain.specs.Sources.{label_of, sigma_of}
use Rattle.mm_plain.proofs.Equations.{by_trees, size_of-unknown, size_of-known, size_of-pos, steps_of-unknown, steps_of-known, put-unknown, length-steps_of, length-flat_map-steps_of, target_of-known}
use Rattle.mm_plain.proofs.Read.{label_of-known, sigma_of-known}
use Rattle.mm_plain.proofs.Trees.{seat-in, at-kid, at-root, at-leaf, put-in, put-root, put_kids-here, put_kids-later, seat-here, seat-later}

-- what a step says itself, without its children
abbrev pub Own : Type 0
Own = List WSym × Option ℕ × Pairs

abbrev pub own_of : Plain → Own
own_of y = (target_of y, label_of y, sigma_of y)

-- ys are xs with other steps in the place of some that end with the k-th; the later ones say the same
pub record IsReplaced (xs ys part other : List Plain) (k : ℕ) : Type 0 where
  pub front : List Plain
  pub back : List Plain
  pub after : List Plain
  pub old : xs ≡ front ++ (part ++ back)
  pub new : ys ≡ front ++ (other ++ after)
  pub place : length front + length part ≡ k
  pub same : map own_of back ≡ map own_of after

abbrev PutLaw : Plain → Plain → Type 0
PutLaw new x = (k : ℕ) → 1 ≤ k → k ≤ size_of x → IsReplaced (steps_of x) (steps_of (put x k new)) (steps_of (step_at x k)) (steps_of new) k

whole : (part other : List Plain) (k : ℕ) → length part ≡ k → IsReplaced part other part other k
whole part other k h = record { front = []; back = []; after = []; old = sym (append-nil part); new = sym (append-nil other); place = omega arith; same = refl }

joined : {A : Type 0} (xs front part back more : List A) → xs ≡ front ++ (part ++ back) → xs ++ more ≡ front ++ (part ++ (back ++ more))
joined xs front part back more e = ap (λ z. z ++ more) e ∙ append_assoc front (part ++ back) more ∙ ap (λ z. front ++ z) (append_assoc part back more)

-- further steps behind
further : (xs ys part other more later : List Plain) (k : ℕ) → map own_of more ≡ map own_of later → IsReplaced xs ys part other k → IsReplaced (xs ++ more) (ys ++ later) part other k
further xs ys part other more later k e h = record {
  front = h.front;
  back = h.back ++ more;
  after = h.after ++ later;
  old = joined xs h.front part h.back more h.old;
  new = joined ys h.front other h.after later h.new;
  place = h.place;
  same = map-append own_of h.back more ∙ ap (λ z. z ++ map own_of more) h.same ∙ ap (λ z. map own_of h.after ++ z) e ∙ sym (map-append own_of h.after later);
}

-- further steps before
behind : (xs ys part other more : List Plain) (k : ℕ) → IsReplaced xs ys part other k → IsReplaced (more ++ xs) (more ++ ys) part other (length more + k)
behind xs ys part other more k h = record {
  front = more ++ h.front;
  back = h.back;
  after = h.after;
  old = ap (λ z. more ++ z) h.old ∙ sym (append_assoc more h.front (part ++ h.back));
  new = ap (λ z. more ++ z) h.new ∙ sym (append_assoc more h.front (other ++ h.after));
  place = let p = h.place in omega (arith, length-append more h.front);
  same = h.same;
}

in-kids : (new : Plain) (kids : List Plain) (k : ℕ) (d : Plain) → Each (PutLaw new) kids → 1 ≤ k → k ≤ sum_by size_of kids
    → IsReplaced (flat_map steps_of kids) (flat_map steps_of (put_kids kids k new)) (steps_of (step_at (get_or kids (seat kids k).0 d) (seat kids k).1)) (steps_of new) k
in-kids new [] k d e h g = absurd (omega arith)
in-kids new (x ∷ xs) k d e h g = elim (cases_lt (size_of x) k) [
  | inr here ↦
      let p : flat_map steps_of (put_kids (x ∷ xs) k new) ≡ steps_of (put x k new) ++ flat_map steps_of xs = ap (flat_map steps_of) (put_kids-here x xs k new here) ∙ flat_map-cons steps_of (put x k new) xs in
      let q : step_at (get_or (x ∷ xs) (seat (x ∷ xs) k).0 d) (seat (x ∷ xs) k).1 ≡ step_at x k = ap (λ (p : ℕ × ℕ). step_at (get_or (x ∷ xs) p.0 d) p.1) (seat-here x xs k here) in
      subst (λ zs. IsReplaced zs (flat_map steps_of (put_kids (x ∷ xs) k new)) (steps_of (step_at (get_or (x ∷ xs) (seat (x ∷ xs) k).0 d) (seat (x ∷ xs) k).1)) (steps_of new) k) (sym (flat_map-cons steps_of x xs))
      (subst (λ zs. IsReplaced (steps_of x ++ flat_map steps_of xs) zs (steps_of (step_at (get_or (x ∷ xs) (seat (x ∷ xs) k).0 d) (seat (x ∷ xs) k).1)) (steps_of new) k) (sym p)
      (subst (λ y. IsReplaced (steps_of x ++ flat_map steps_of xs) (steps_of (put x k new) ++ flat_map steps_of xs) (steps_of y) (steps_of new) k) (sym q)
      (further (steps_of x) (steps_of (put x k new)) (steps_of (step_at x k)) (steps_of new) (flat_map steps_of xs) (flat_map steps_of xs) k refl (e.0 k h here))))
  | inl later ↦
      let j : ℕ = k - size_of x in
      let p : flat_map steps_of (put_kids (x ∷ xs) k new) ≡ steps_of x ++ flat_map steps_of (put_kids xs j new) = ap (flat_map steps_of) (put_kids-later x xs k new later) ∙ flat_map-cons steps_of x (put_kids xs j new) in
      let r : step_at (get_or (x ∷ xs) ((seat xs j).0 + 1) d) (seat xs j).1 ≡ step_at (get_or xs (seat xs j).0 d) (seat xs j).1 = rw add-one refl in
      let q : step_at (get_or (x ∷ xs) (seat (x ∷ xs) k).0 d) (seat (x ∷ xs) k).1 ≡ step_at (get_or xs (seat xs j).0 d) (seat xs j).1 = ap (λ (p : ℕ × ℕ). step_at (get_or (x ∷ xs) p.0 d) p.1) (seat-later x xs k later) ∙ r in
      let ih = in-kids new xs j d e.1 (omega arith) (omega (arith, sum_by-cons size_of x xs)) in
      let z : length (steps_of x) + j ≡ k = omega (arith, length-steps_of x) in
      subst (λ zs. IsReplaced zs (flat_map steps_of (put_kids (x ∷ xs) k new)) (steps_of (step_at (get_or (x ∷ xs) (seat (x ∷ xs) k).0 d) (seat (x ∷ xs) k).1)) (steps_of new) k) (sym (flat_map-cons steps_of x xs))
      (subst (λ zs. IsReplaced (steps_of x ++ flat_map steps_of xs) zs (steps_of (step_at (get_or (x ∷ xs) (seat (x ∷ xs) k).0 d) (seat (x ∷ xs) k).1)) (steps_of new) k) (sym p)
      (subst (λ y. IsReplaced (steps_of x ++ flat_map steps_of xs) (steps_of x ++ flat_map steps_of (put_kids xs j new)) (steps_of y) (steps_of new) k) (sym q)
      (subst (λ n. IsReplaced (steps_of x ++ flat_map steps_of xs) (steps_of x ++ flat_map steps_of (put_kids xs j new)) (steps_of (step_at (get_or xs (seat xs j).0 d) (seat xs j).1)) (steps_of new) n) z
      (behind (flat_map steps_of xs) (flat_map steps_of (put_kids xs j new)) (steps_of (step_at (get_or xs (seat xs j).0 d) (seat xs j).1)) (steps_of new) (steps_of x) j ih))))
]

own-known : (t : List WSym) (l : ℕ) (s : Pairs) (kids others : List Plain) → own_of (known t l s kids) ≡ own_of (known t l s others)
own-known t l s kids others =
    ap (λ u. (u, label_of (known t l s kids), sigma_of (known t l s kids))) (target_of-known t l s kids ∙ sym (target_of-known t l s others))
    ∙ ap (λ u. (target_of (known t l s others), u, sigma_of (known t l s kids))) (label_of-known t l s kids ∙ sym (label_of-known t l s others))
    ∙ ap (λ u. (target_of (known t l s others), label_of (known t l s others), u)) (sigma_of-known t l s kids ∙ sym (sigma_of-known t l s others))

pub steps-put : (new x : Plain) → PutLaw new x
steps-put new = by_trees (PutLaw new)
    (λ t k h g.
    let z : k ≡ 1 = omega (arith, size_of-unknown t) in
    let u : steps_of (unknown t) ≡ steps_of (step_at (unknown t) k) = ap steps_of (sym (at-leaf t k z)) in
    subst (λ zs. IsReplaced zs (steps_of (put (unknown t) k new)) (steps_of (step_at (unknown t) k)) (steps_of new) k) (sym u)
    (subst (λ y. IsReplaced (steps_of (step_at (unknown t) k)) (steps_of y) (steps_of (step_at (unknown t) k)) (steps_of new) k) (sym (put-unknown t k new))
    (whole (steps_of (step_at (unknown t) k)) (steps_of new) k (omega (arith, ap length (sym u), length-steps_of (unknown t), size_of-unknown t)))))
    (λ t l s kids ih k h g. elim (cases_lt (sum_by size_of kids) k) [
      | inr inside ↦
          let x : Plain = known t l s kids in
          let y : Plain = known t l s (put_kids kids k new) in
          let q = seat-in kids k (unknown []) h inside in
          let p : Plain = step_at (get_or kids (seat kids k).0 (unknown [])) (seat kids k).1 in
          let e : step_at x k ≡ p = at-kid t l s kids k (seat kids k).0 (seat kids k).1 (unknown []) q h inside in
          let same : map own_of (x ∷ []) ≡ map own_of (y ∷ []) = ap (λ o. o ∷ []) (own-known t l s kids (put_kids kids k new)) in
          subst (λ zs. IsReplaced zs (steps_of (put x k new)) (steps_of (step_at x k)) (steps_of new) k) (sym (steps_of-known t l s kids))
          (subst (λ z. IsReplaced (flat_map steps_of kids ++ x ∷ []) z (steps_of (step_at x k)) (steps_of new) k) (sym (ap steps_of (put-in t l s kids k new inside) ∙ steps_of-known t l s (put_kids kids k new)))
          (subst (λ z. IsReplaced (flat_map steps_of kids ++ x ∷ []) (flat_map steps_of (put_kids kids k new) ++ y ∷ []) (steps_of z) (steps_of new) k) (sym e)
          (further (flat_map steps_of kids) (flat_map steps_of (put_kids kids k new)) (steps_of p) (steps_of new) (x ∷ []) (y ∷ []) k same (in-kids new kids k (unknown []) ih h inside))))
      | inl root ↦
          let x : Plain = known t l s kids in
          let z : k ≡ sum_by size_of kids + 1 = omega (arith, size_of-known t l s kids) in
          let e : step_at x k ≡ x = at-root t l s kids k z in
          subst (λ y. IsReplaced (steps_of x) (steps_of y) (steps_of (step_at x k)) (steps_of new) k) (sym (put-root t l s kids k new z))
          (subst (λ y. IsReplaced (steps_of x) (steps_of new) (steps_of y) (steps_of new) k) (sym e) (whole (steps_of x) (steps_of new) k (omega (arith, length-steps_of x, size_of-known t l s kids))))
    ])

-- a subtree ends with its step, so it has no more steps than the step's number
pub size-before : (x : Plain) (k : ℕ) → 1 ≤ k → k ≤ size_of x → size_of (step_at x k) ≤ k
size-before x k h g = let w = steps-put (unknown []) x k h g in let p = w.place in omega (arith, length-steps_of (step_at x k))

last-step : (y z : Plain) → get_or (steps_of y) (size_of y - 1) z ≡ y
last-step y z = by_trees (λ y. get_or (steps_of y) (size_of y - 1) z ≡ y)
    (λ t. let e : size_of (unknown t) - 1 ≡ 0 = omega (arith, size_of-unknown t) in ap (λ n. get_or (steps_of (unknown t)) n z) e ∙ ap (λ ys. get_or ys 0 z) (steps_of-unknown t))
    (λ t l s kids h.
    let x : Plain = known t l s kids in
    ap (λ ys. get_or ys (size_of x - 1) z) (steps_of-known t l s kids)
    ∙ get_or-append_right (flat_map steps_of kids) (x ∷ []) (sum_by size_of kids) (size_of x - 1) z (length-flat_map-steps_of kids) (omega (arith, size_of-known t l s kids))
    ∙ (let e : size_of x - 1 - sum_by size_of kids ≡ 0 = omega (arith, size_of-known t l s kids) in ap (λ n. get_or (x ∷ []) n z) e)) y

-- the new tree stands in the place of the old one, with its number
pub at-put : (new x : Plain) (k j : ℕ) → 1 ≤ k → k ≤ size_of x → j + size_of (step_at x k) ≡ k + size_of new → step_at (put x k new) j ≡ new
at-put new x k j h g e =
    let w = steps-put new x k h g in
    let p = w.place in
    let n : length w.front + size_of new ≡ j = omega (arith, length-steps_of (step_at x k)) in
    let some = size_of-pos new in
    ap (λ ys. get_or ys (j - 1) (put x k new)) w.new
    ∙ get_or-append_right w.front (steps_of new ++ w.after) (length w.front) (j - 1) (put x k new) refl (omega arith)
    ∙ get_or_append_left (steps_of new) w.after (put x k new) (j - 1 - length w.front) (omega (arith, length-steps_of new))
    ∙ (let m : j - 1 - length w.front ≡ size_of new - 1 = omega arith in ap (λ i. get_or (steps_of new) i (put x k new)) m)
    ∙ last-step new (put x k new)
