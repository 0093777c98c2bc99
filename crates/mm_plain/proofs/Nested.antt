-- A step of a part is a step of the whole.
use Rattle.std.proofs.Common.{◌≡◌, ℕ, ◌+◌, ◌-◌, ◌≤◌, ◌<◌, List, [], ◌∷◌, ◌++◌, map, length, take, drop, get_or, Option, refl, sym, ◌∙◌, ap, subst, inl, inr, arith, append_assoc, length-append, add-one}
use Rattle.std.specs.List.{flat_map, sum_by}
use Rattle.std.proofs.Math.Seq.{drop-append_seam, take-append_seam}
use Rattle.std.proofs.lemmas.Bool.{cases_lt}
use Rattle.std.proofs.lemmas.List.Concat.{flat_map-cons}
use Rattle.std.proofs.lemmas.List.Sums.{sum_by-cons}
use Rattle.std.proofs.lemmas.List.{append-nil, map-append, length-map, get_or_append_left, get_or-append_right, get_or_default}
use Rattle.mm_plain.specs.declared.plain.Plain.{Plain}
use Rattle.mm_plain.specs.Shape.{Each, known, unknown, size_of, steps_of, step_at, put, put_kids, seat}
use Rattle.mm_plain.specs.Sources.{label_of}
use Rattle.mm_plain.specs.Numbers.{labels_in, number_in}
use Rattle.mm_plain.proofs.Equations.{by_trees, size_of-unknown, size_of-known, size_of-pos, steps_of-known, length-steps_of, put-unknown}
use Rattle.mm_plain.proofs.Read.{label_of-known}
use Rattle.mm_plain.proofs.Trees.{seat-in, seat-here, seat-later, at-kid, at-root, at-leaf, put-in, put-root, put_kids-here, put_kids-later}

-- The steps of a list before those of a subtree, and after them; and those after a tree in its place, with the same labels.
pub record Around (steps : List Plain) (changed : Plain → List Plain) (y : Plain) (k : ℕ) : Type 0 where
  pub before : List Plain
  pub after : List Plain
  pub others : Plain → List Plain
  pub number : length before + size_of y ≡ k
  pub is : steps ≡ before ++ (steps_of y ++ after)
  pub puts : (new : Plain) → changed new ≡ before ++ (steps_of new ++ others new)
  pub labels : (new : Plain) → map label_of (others new) ≡ map label_of after

-- more steps behind
behind : (steps : List Plain) (changed : Plain → List Plain) (y : Plain) (k : ℕ) (more : List Plain) (rest : Plain → List Plain) → ((new : Plain) → map label_of (rest new) ≡ map label_of more)
    → Around steps changed y k → Around (steps ++ more) (λ new. changed new ++ rest new) y k
behind steps changed y k more rest same a = record {
  before = a.before;
  after = a.after ++ more;
  others = λ new. a.others new ++ rest new;
  number = a.number;
  is = ap (λ ys. ys ++ more) a.is ∙ append_assoc a.before (steps_of y ++ a.after) more ∙ ap (λ ys. a.before ++ ys) (append_assoc (steps_of y) a.after more);
  puts = λ new. ap (λ ys. ys ++ rest new) (a.puts new) ∙ append_assoc a.before (steps_of new ++ a.others new) (rest new) ∙ ap (λ ys. a.before ++ ys) (append_assoc (steps_of new) (a.others new) (rest new));
  labels = λ new. map-append label_of (a.others new) (rest new) ∙ ap (λ ls. ls ++ map label_of (rest new)) (a.labels new) ∙ ap (λ ls. map label_of a.after ++ ls) (same new) ∙ sym (map-append label_of a.after more);
}

-- more steps in front
in_front : (steps : List Plain) (changed : Plain → List Plain) (y : Plain) (k n : ℕ) (more : List Plain) → length more + k ≡ n → Around steps changed y k
    → Around (more ++ steps) (λ new. more ++ changed new) y n
in_front steps changed y k n more count a = record {
  before = more ++ a.before;
  after = a.after;
  others = a.others;
  number = let number = a.number in omega (arith, length-append more a.before, count);
  is = ap (λ ys. more ++ ys) a.is ∙ sym (append_assoc more a.before (steps_of y ++ a.after));
  puts = λ new. ap (λ ys. more ++ ys) (a.puts new) ∙ sym (append_assoc more a.before (steps_of new ++ a.others new));
  labels = a.labels;
}

around_root : (x : Plain) (changed : Plain → List Plain) (k : ℕ) → k ≡ size_of x → ((new : Plain) → changed new ≡ steps_of new) → Around (steps_of x) changed x k
around_root x changed k z same = record {
  before = [];
  after = [];
  others = λ new. [];
  number = omega (arith, z);
  is = sym (append-nil (steps_of x));
  puts = λ new. same new ∙ sym (append-nil (steps_of new));
  labels = λ new. refl;
}

abbrev pub AroundAt : Plain → ℕ → Type 0
AroundAt x k = Around (steps_of x) (λ new. steps_of (put x k new)) (step_at x k) k

abbrev pub HasAround : Plain → Type 0
HasAround x = (k : ℕ) → 1 ≤ k → k ≤ size_of x → AroundAt x k

around_same : (steps : List Plain) (changed other : Plain → List Plain) (y z : Plain) (k : ℕ) → ((new : Plain) → other new ≡ changed new) → y ≡ z → Around steps changed y k → Around steps other z k
around_same steps changed other y z k same is a = subst (λ u. Around steps other u k) is (record {
  before = a.before;
  after = a.after;
  others = a.others;
  number = a.number;
  is = a.is;
  puts = λ new. same new ∙ a.puts new;
  labels = a.labels;
})

pub later_step : (x : Plain) (xs : List Plain) (left : ℕ) (d : Plain) → step_at (get_or (x ∷ xs) ((seat xs left).0 + 1) d) (seat xs left).1 ≡ step_at (get_or xs (seat xs left).0 d) (seat xs left).1
later_step x xs left d = rw add-one refl

pub around_kids : (kids : List Plain) (k : ℕ) (d : Plain) → Each HasAround kids → 1 ≤ k → k ≤ sum_by size_of kids
    → Around (flat_map steps_of kids) (λ new. flat_map steps_of (put_kids kids k new)) (step_at (get_or kids (seat kids k).0 d) (seat kids k).1) k
around_kids [] k d e h g = absurd (omega arith)
around_kids (x ∷ xs) k d e h g = elim (cases_lt (size_of x) k) [
  | inr here ↦
      around_same (flat_map steps_of (x ∷ xs)) (λ new. steps_of (put x k new) ++ flat_map steps_of xs) (λ new. flat_map steps_of (put_kids (x ∷ xs) k new))
      (step_at x k) (step_at (get_or (x ∷ xs) (seat (x ∷ xs) k).0 d) (seat (x ∷ xs) k).1) k
      (λ new. ap (flat_map steps_of) (put_kids-here x xs k new here) ∙ flat_map-cons steps_of (put x k new) xs)
      (ap (λ (p : ℕ × ℕ). step_at (get_or (x ∷ xs) p.0 d) p.1) (sym (seat-here x xs k here)))
      (subst (λ ys. Around ys (λ new. steps_of (put x k new) ++ flat_map steps_of xs) (step_at x k) k) (sym (flat_map-cons steps_of x xs))
      (behind (steps_of x) (λ new. steps_of (put x k new)) (step_at x k) k (flat_map steps_of xs) (λ new. flat_map steps_of xs) (λ new. refl) (e.0 k h here)))
  | inl later ↦
      let left : ℕ = k - size_of x in
      let y : Plain = step_at (get_or xs (seat xs left).0 d) (seat xs left).1 in
      around_same (flat_map steps_of (x ∷ xs)) (λ new. steps_of x ++ flat_map steps_of (put_kids xs left new)) (λ new. flat_map steps_of (put_kids (x ∷ xs) k new))
      y (step_at (get_or (x ∷ xs) (seat (x ∷ xs) k).0 d) (seat (x ∷ xs) k).1) k
      (λ new. ap (flat_map steps_of) (put_kids-later x xs k new later) ∙ flat_map-cons steps_of x (put_kids xs left new))
      (sym (ap (λ (p : ℕ × ℕ). step_at (get_or (x ∷ xs) p.0 d) p.1) (seat-later x xs k later) ∙ later_step x xs left d))
      (subst (λ ys. Around ys (λ new. steps_of x ++ flat_map steps_of (put_kids xs left new)) y k) (sym (flat_map-cons steps_of x xs))
      (in_front (flat_map steps_of xs) (λ new. flat_map steps_of (put_kids xs left new)) y left k (steps_of x) (omega (arith, length-steps_of x))
      (around_kids xs left d e.1 (omega arith) (omega (arith, sum_by-cons size_of x xs)))))
]

-- the steps of a tree around those of a part
pub around : (x : Plain) (k : ℕ) → 1 ≤ k → k ≤ size_of x → AroundAt x k
around = by_trees HasAround
    (λ t k h g. let z : k ≡ 1 = omega (arith, size_of-unknown t) in
    around_same (steps_of (unknown t)) steps_of (λ new. steps_of (put (unknown t) k new)) (unknown t) (step_at (unknown t) k) k (λ new. ap steps_of (put-unknown t k new)) (sym (at-leaf t k z))
    (around_root (unknown t) steps_of k (z ∙ sym (size_of-unknown t)) (λ new. refl)))
    (λ t l s kids e k h g. elim (cases_lt (sum_by size_of kids) k) [
      | inr in_kids ↦
          let q = seat-in kids k (unknown []) h in_kids in
          let y : Plain = step_at (get_or kids (seat kids k).0 (unknown [])) (seat kids k).1 in
          let root : Plain → Plain = λ new. known t l s (put_kids kids k new) in
          around_same (steps_of (known t l s kids)) (λ new. flat_map steps_of (put_kids kids k new) ++ (root new ∷ [])) (λ new. steps_of (put (known t l s kids) k new)) y (step_at (known t l s kids) k) k
          (λ new. ap steps_of (put-in t l s kids k new in_kids) ∙ steps_of-known t l s (put_kids kids k new))
          (sym (at-kid t l s kids k (seat kids k).0 (seat kids k).1 (unknown []) q h in_kids))
          (subst (λ ys. Around ys (λ new. flat_map steps_of (put_kids kids k new) ++ (root new ∷ [])) y k) (sym (steps_of-known t l s kids))
          (behind (flat_map steps_of kids) (λ new. flat_map steps_of (put_kids kids k new)) y k (known t l s kids ∷ []) (λ new. root new ∷ [])
          (λ new. ap (λ o. o ∷ []) (label_of-known t l s (put_kids kids k new) ∙ sym (label_of-known t l s kids)))
          (around_kids kids k (unknown []) e h in_kids)))
      | inl last ↦
          let z : k ≡ sum_by size_of kids + 1 = omega (arith, size_of-known t l s kids) in
          around_same (steps_of (known t l s kids)) steps_of (λ new. steps_of (put (known t l s kids) k new)) (known t l s kids) (step_at (known t l s kids) k) k
          (λ new. ap steps_of (put-root t l s kids k new z)) (sym (at-root t l s kids k z))
          (around_root (known t l s kids) steps_of k (z ∙ sym (size_of-known t l s kids)) (λ new. refl))
    ])

pub all_around : (kids : List Plain) → Each HasAround kids
all_around [] = tt
all_around (x ∷ xs) = (around x, all_around xs)

get_in : (front mid back : List Plain) (i : ℕ) (d e : Plain) → i < length mid → get_or (front ++ (mid ++ back)) (length front + i) d ≡ get_or mid i e
get_in front mid back i d e h =
    get_or-append_right front (mid ++ back) (length front) (length front + i) d refl (omega arith)
    ∙ (let z : length front + i - length front ≡ i = omega arith in ap (λ n. get_or (mid ++ back) n d) z)
    ∙ get_or_append_left mid back d i h
    ∙ get_or_default mid i d e h

pub step-within : (x : Plain) (k j : ℕ) → 1 ≤ k → k ≤ size_of x → 1 ≤ j → j ≤ size_of (step_at x k) → step_at x (number_in x k j) ≡ step_at (step_at x k) j
step-within x k j h g f m =
    let a = around x k h g in
    let y : Plain = step_at x k in
    let number = a.number in
    let z : number_in x k j - 1 ≡ length a.before + (j - 1) = omega arith in
    ap (λ ys. get_or ys (number_in x k j - 1) x) a.is
    ∙ ap (λ n. get_or (a.before ++ (steps_of y ++ a.after)) n x) z
    ∙ get_in a.before (steps_of y) a.after (j - 1) x y (omega (arith, length-steps_of y))

-- a tree in the place of a step stands there
pub step-put : (new x : Plain) (k j : ℕ) → 1 ≤ k → k ≤ size_of x → 1 ≤ j → j ≤ size_of new → step_at (put x k new) (number_in x k j) ≡ step_at new j
step-put new x k j h g f m =
    let a = around x k h g in
    let number = a.number in
    let z : number_in x k j - 1 ≡ length a.before + (j - 1) = omega arith in
    ap (λ ys. get_or ys (number_in x k j - 1) (put x k new)) (a.puts new)
    ∙ ap (λ n. get_or (a.before ++ (steps_of new ++ a.others new)) n (put x k new)) z
    ∙ get_in a.before (steps_of new) (a.others new) (j - 1) (put x k new) new (omega (arith, length-steps_of new))

pub step_last : (x : Plain) → step_at x (size_of x) ≡ x
step_last = by_trees (λ x. step_at x (size_of x) ≡ x)
    (λ t. at-leaf t (size_of (unknown t)) (size_of-unknown t))
    (λ t l s kids e. at-root t l s kids (size_of (known t l s kids)) (size_of-known t l s kids))

pub step-put_root : (new x : Plain) (k : ℕ) → 1 ≤ k → k ≤ size_of x → step_at (put x k new) (number_in x k (size_of new)) ≡ new
step-put_root new x k h g = step-put new x k (size_of new) h g (size_of-pos new) (omega arith) ∙ step_last new

-- what is before the part stays
pub step-put_before : (new x : Plain) (k j : ℕ) → 1 ≤ k → k ≤ size_of x → 1 ≤ j → j + size_of (step_at x k) ≤ k → step_at (put x k new) j ≡ step_at x j
step-put_before new x k j h g f m =
    let a = around x k h g in
    let number = a.number in
    ap (λ ys. get_or ys (j - 1) (put x k new)) (a.puts new)
    ∙ get_or_append_left a.before (steps_of new ++ a.others new) (put x k new) (j - 1) (omega arith)
    ∙ get_or_default a.before (j - 1) (put x k new) x (omega arith)
    ∙ sym (get_or_append_left a.before (steps_of (step_at x k) ++ a.after) x (j - 1) (omega arith))
    ∙ sym (ap (λ ys. get_or ys (j - 1) x) a.is)

-- the labels are those before the part, those of the tree in its place, and those after the part
pub labels_in-put : (new x : Plain) (k : ℕ) → 1 ≤ k → k ≤ size_of x
    → labels_in (put x k new) ≡ take (k - size_of (step_at x k)) (labels_in x) ++ (labels_in new ++ drop k (labels_in x))
labels_in-put new x k h g =
    let a = around x k h g in
    let y : Plain = step_at x k in
    let number = a.number in
    let front : List (Option ℕ) = map label_of a.before in
    let back : List (Option ℕ) = map label_of a.after in
    let whole : labels_in x ≡ front ++ (labels_in y ++ back) =
    ap (map label_of) a.is ∙ map-append label_of a.before (steps_of y ++ a.after) ∙ ap (λ ls. front ++ ls) (map-append label_of (steps_of y) a.after) in
    let long : length front ≡ k - size_of y = length-map a.before label_of ∙ (let z : length a.before ≡ k - size_of y = omega arith in z) in
    let long_all : length (front ++ labels_in y) ≡ k = omega (arith, length-append front (labels_in y), length-map a.before label_of, length-map (steps_of y) label_of, length-steps_of y) in
    ap (map label_of) (a.puts new)
    ∙ map-append label_of a.before (steps_of new ++ a.others new)
    ∙ ap (λ ls. front ++ ls) (map-append label_of (steps_of new) (a.others new) ∙ ap (λ ls. labels_in new ++ ls) (a.labels new))
    ∙ sym (
    ap (λ ls. take (k - size_of y) ls ++ (labels_in new ++ drop k ls)) whole
    ∙ ap (λ n. take n (front ++ (labels_in y ++ back)) ++ (labels_in new ++ drop k (front ++ (labels_in y ++ back)))) (sym long)
    ∙ ap (λ ls. ls ++ (labels_in new ++ drop k (front ++ (labels_in y ++ back)))) (take-append_seam front (labels_in y ++ back))
    ∙ ap (λ ls. front ++ (labels_in new ++ drop k ls)) (sym (append_assoc front (labels_in y) back))
    ∙ ap (λ n. front ++ (labels_in new ++ drop n ((front ++ labels_in y) ++ back))) (sym long_all)
    ∙ ap (λ ls. front ++ (labels_in new ++ ls)) (drop-append_seam (front ++ labels_in y) back))

-- a step replaced within a part

abbrev PutsWithin : Plain → Plain → Type 0
PutsWithin new x = (k j : ℕ) → 1 ≤ k → k ≤ size_of x → 1 ≤ j → j ≤ size_of (step_at x k) → put x (number_in x k j) new ≡ put x k (put (step_at x k) j new)

-- the number of a step in a part among children
abbrev number_among : List Plain → ℕ → ℕ → Plain → ℕ
number_among kids k j d = k - size_of (step_at (get_or kids (seat kids k).0 d) (seat kids k).1) + j

within_kids : (new : Plain) (kids : List Plain) (k j : ℕ) (d : Plain) → Each (PutsWithin new) kids → 1 ≤ k → k ≤ sum_by size_of kids
    → 1 ≤ j → j ≤ size_of (step_at (get_or kids (seat kids k).0 d) (seat kids k).1)
    → put_kids kids (number_among kids k j d) new ≡ put_kids kids k (put (step_at (get_or kids (seat kids k).0 d) (seat kids k).1) j new)
within_kids new [] k j d e h g f m = absurd (omega arith)
within_kids new (x ∷ xs) k j d e h g f m = elim (cases_lt (size_of x) k) [
  | inr here ↦
      let is : step_at (get_or (x ∷ xs) (seat (x ∷ xs) k).0 d) (seat (x ∷ xs) k).1 ≡ step_at x k = ap (λ (p : ℕ × ℕ). step_at (get_or (x ∷ xs) p.0 d) p.1) (seat-here x xs k here) in
      let small : j ≤ size_of (step_at x k) = omega (arith, ap size_of is) in
      let part : size_of (step_at x k) ≤ k = omega (arith, (around x k h here).number) in
      ap (λ y. put_kids (x ∷ xs) (k - size_of y + j) new) is
      ∙ put_kids-here x xs (number_in x k j) new (omega arith)
      ∙ ap (λ y. y ∷ xs) (e.0 k j h here f small)
      ∙ sym (put_kids-here x xs k (put (step_at x k) j new) here)
      ∙ ap (λ y. put_kids (x ∷ xs) k (put y j new)) (sym is)
  | inl later ↦
      let left : ℕ = k - size_of x in
      let y : Plain = step_at (get_or xs (seat xs left).0 d) (seat xs left).1 in
      let is : step_at (get_or (x ∷ xs) (seat (x ∷ xs) k).0 d) (seat (x ∷ xs) k).1 ≡ y = ap (λ (p : ℕ × ℕ). step_at (get_or (x ∷ xs) p.0 d) p.1) (seat-later x xs k later) ∙ later_step x xs left d in
      let low : 1 ≤ left = omega arith in
      let high : left ≤ sum_by size_of xs = omega (arith, sum_by-cons size_of x xs) in
      let small : j ≤ size_of y = omega (arith, ap size_of is) in
      let part : size_of y ≤ left = omega (arith, (around_kids xs left d (all_around xs) low high).number) in
      let beyond : size_of x < k - size_of y + j = omega arith in
      let same : k - size_of y + j - size_of x ≡ left - size_of y + j = omega arith in
      ap (λ z. put_kids (x ∷ xs) (k - size_of z + j) new) is
      ∙ put_kids-later x xs (k - size_of y + j) new beyond
      ∙ ap (λ n. x ∷ put_kids xs n new) same
      ∙ ap (λ ys. x ∷ ys) (within_kids new xs left j d e.1 low high f small)
      ∙ sym (put_kids-later x xs k (put y j new) later)
      ∙ ap (λ z. put_kids (x ∷ xs) k (put z j new)) (sym is)
]

pub put-within : (new x : Plain) (k j : ℕ) → 1 ≤ k → k ≤ size_of x → 1 ≤ j → j ≤ size_of (step_at x k) → put x (number_in x k j) new ≡ put x k (put (step_at x k) j new)
put-within new = by_trees (PutsWithin new)
    (λ t k j h g f m.
    let z : k ≡ 1 = omega (arith, size_of-unknown t) in
    let is : step_at (unknown t) k ≡ unknown t = at-leaf t k z in
    put-unknown t (number_in (unknown t) k j) new ∙ sym (put-unknown t k (put (step_at (unknown t) k) j new) ∙ ap (λ y. put y j new) is ∙ put-unknown t j new))
    (λ t l s kids e k j h g f m. elim (cases_lt (sum_by size_of kids) k) [
      | inr in_kids ↦
          let q = seat-in kids k (unknown []) h in_kids in
          let y : Plain = step_at (get_or kids (seat kids k).0 (unknown [])) (seat kids k).1 in
          let is : step_at (known t l s kids) k ≡ y = at-kid t l s kids k (seat kids k).0 (seat kids k).1 (unknown []) q h in_kids in
          let small : j ≤ size_of y = omega (arith, ap size_of is) in
          let part : size_of y ≤ k = omega (arith, (around_kids kids k (unknown []) (all_around kids) h in_kids).number) in
          ap (λ z. put (known t l s kids) (k - size_of z + j) new) is
          ∙ put-in t l s kids (k - size_of y + j) new (omega arith)
          ∙ ap (known t l s) (within_kids new kids k j (unknown []) e h in_kids f small)
          ∙ sym (put-in t l s kids k (put y j new) in_kids)
          ∙ ap (λ z. put (known t l s kids) k (put z j new)) (sym is)
      | inl last ↦
          let x : Plain = known t l s kids in
          let z : k ≡ sum_by size_of kids + 1 = omega (arith, size_of-known t l s kids) in
          let is : step_at x k ≡ x = at-root t l s kids k z in
          let same : k - size_of x + j ≡ j = omega (arith, size_of-known t l s kids) in
          ap (λ y. put x (k - size_of y + j) new) is
          ∙ ap (λ n. put x n new) same
          ∙ sym (put-root t l s kids k (put (step_at x k) j new) z ∙ ap (λ y. put y j new) is)
    ])

-- the labels of a part are a run of those of the whole
pub labels_in-part : (x : Plain) (k : ℕ) → 1 ≤ k → k ≤ size_of x → labels_in (step_at x k) ≡ take (size_of (step_at x k)) (drop (k - size_of (step_at x k)) (labels_in x))
labels_in-part x k h g =
    let a = around x k h g in
    let y : Plain = step_at x k in
    let number = a.number in
    let front : List (Option ℕ) = map label_of a.before in
    let back : List (Option ℕ) = map label_of a.after in
    let whole : labels_in x ≡ front ++ (labels_in y ++ back) =
    ap (map label_of) a.is ∙ map-append label_of a.before (steps_of y ++ a.after) ∙ ap (λ ls. front ++ ls) (map-append label_of (steps_of y) a.after) in
    let long : length front ≡ k - size_of y = length-map a.before label_of ∙ (let z : length a.before ≡ k - size_of y = omega arith in z) in
    let size : length (labels_in y) ≡ size_of y = length-map (steps_of y) label_of ∙ length-steps_of y in
    sym (
    ap (λ ls. take (size_of y) (drop (k - size_of y) ls)) whole
    ∙ ap (λ n. take (size_of y) (drop n (front ++ (labels_in y ++ back)))) (sym long)
    ∙ ap (take (size_of y)) (drop-append_seam front (labels_in y ++ back))
    ∙ ap (λ n. take n (labels_in y ++ back)) (sym size)
    ∙ take-append_seam (labels_in y) back)
