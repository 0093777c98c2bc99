-- A child that holds a step, and the tree that a path made anew makes.
use Rattle.std.proofs.Common.{zero, suc, ◌≡◌, ℕ, ◌+◌, ◌≤◌, ◌<◌, max, List, [], ◌∷◌, map, length, get_or, set, IfOk, Result, Ok, Err, sym, ◌∙◌, ap, subst, arith}
use Rattle.std.specs.List.{sum_by}
use Rattle.std.proofs.lemmas.List.Sums.{sum_by-cons}
use Rattle.std.proofs.lemmas.List.{map-set, get_or-map}
use Rattle.mm_plain.specs.declared.plain.Plain.{Plain}
use Rattle.mm_plain.specs.Shape.{unknown, known, size_of, put, seat, step_at, depth_at, greatest}
use Rattle.mm_plain.proofs.Equations.{put-unknown}
use Rattle.mm_plain.proofs.Trees.{IsKidAt, kid-found, seat-root, put-root, at-root, at-leaf}
use Rattle.mm_plain.proofs.Depths.{kid-depth}
use Rattle.mm_plain.proofs.Sizes.{size-put, depth-root, depth-leaf}
use Rattle.mm_tree.specs.Lines.{Line}
use Rattle.mm_tree.specs.Meanings.{mean, means, mean-unknown, mean-known, text_now, sigma_now, unknown_timed, known_timed, count, youngest}
use Rattle.mm_tree.specs.View.{Shared, values, counts}
use Rattle.mm_tree.specs.Falls.{count-known, count-unknown}
use Rattle.mm_tree.specs.Paths.{IsChild, IsRoot, IsRebuilt, IsPut}
use Rattle.mm_tree.specs.declared.timed.Text.{Text}
use Rattle.mm_tree.specs.declared.timed.Values.{Values}
use Rattle.mm_tree.specs.declared.timed.TimedTree.{TimedTree}
use Rattle.mm_tree.proofs.Shapes.{size_of-mean, sizes-means, counts-values, length-means, seat-means, youngest-known}

pub kid-birth : (xs : List TimedTree) (i : ℕ) (d : TimedTree) → i < length xs → youngest (get_or xs i d) ≤ greatest (map youngest xs)
kid-birth [] i d h = absurd (omega arith)
kid-birth (x ∷ xs) zero d h = omega arith
kid-birth (x ∷ xs) (suc i) d h = omega (arith, kid-birth xs i d (omega arith))

-- a known step x, and its child d that holds step k of it, as step `left`
pub record IsHolder (t : Text) (l : ℕ) (s : Values) (kids : List TimedTree) (x d : TimedTree) (k i left : ℕ) : Type 0 where
  pub child : IsChild x d k left
  pub within : i < length kids
  pub summed : sum_by count kids + 1 ≡ count x
  pub puts : (new child y : TimedTree) → IsPut d left new child → IsRebuilt t l s kids i child y → IsPut x k new y

pub holder : (t : Text) (l : ℕ) (s : Values) (kids : List TimedTree) (x d : TimedTree) (k i left : ℕ) → known_timed t l s kids ≡ x
    → (i, left) ≡ seat (means [] kids) k → 1 ≤ k → k ≤ count x → i < length kids → d ≡ get_or kids i d → IsHolder t l s kids x d k i left
holder t l s kids x d k i left is e h f g at = record {
  child = record {
    smaller = let a = (here []).kid.smaller in omega (arith, size_of-mean [] d, same-size []);
    first = (here []).kid.first;
    last = let a = (here []).kid.last in omega (arith, size_of-mean [] d);
    same_step = λ line. (here line).kid.step ∙ ap (λ (n : Plain). step_at n k) (is-mean line);
    deeper = ap (λ (n : Plain). depth_at n k) (sym (is-mean []))
        ∙ kid-depth (text_now [] t) l (sigma_now [] s) (means [] kids) k i left (mean d []) e h (within-size []) (omega (arith, g, length-means [] kids)) (mean-kid []);
    older = omega (arith, ap youngest is, youngest-known t l s kids, kid-birth kids i d g, ap youngest at);
  };
  within = g;
  summed = sym (count-known t l s kids) ∙ ap count is;
  puts = λ new child y p q. record {
    meaning = λ line. q.meaning line
        ∙ ap (λ (n : Plain). known (text_now line t) l (sigma_now line s) (set (means line kids) i n)) (p.meaning line)
        ∙ (here line).puts (mean new line)
        ∙ ap (λ (n : Plain). put n k (mean new line)) (is-mean line);
    births = let a = p.births in let b = q.births in omega (arith, ap youngest is, youngest-known t l s kids, kid-birth kids i d g, ap youngest at);
  };
}
  where
    is-mean : (line : Line) → known (text_now line t) l (sigma_now line s) (means line kids) ≡ mean x line
    is-mean line = sym (mean-known t l s kids line) ∙ ap (λ (n : TimedTree). mean n line) is

    mean-kid : (line : Line) → mean d line ≡ get_or (means line kids) i (mean d line)
    mean-kid line = ap (λ (n : TimedTree). mean n line) at ∙ sym (get_or-map (λ (n : TimedTree). mean n line) kids i d (mean d line) g)

    same-size : (line : Line) → size_of (known (text_now line t) l (sigma_now line s) (means line kids)) ≡ count x
    same-size line = ap size_of (is-mean line) ∙ size_of-mean line x

    within-size : (line : Line) → k ≤ size_of (known (text_now line t) l (sigma_now line s) (means line kids))
    within-size line = omega (arith, f, same-size line)

    here : (line : Line) → IsKidAt (text_now line t) l (sigma_now line s) (means line kids) (mean d line) k i left
    here line = kid-found (text_now line t) l (sigma_now line s) (means line kids) k i left (mean d line) (e ∙ seat-means [] line kids k) h
        (within-size line) (omega (arith, g, length-means line kids)) (mean-kid line)

-- a step that no child holds is the node's own
pub root-here : (t : Text) (l : ℕ) (s : Values) (kids : List TimedTree) (x : TimedTree) (k i left : ℕ) → known_timed t l s kids ≡ x
    → (i, left) ≡ seat (means [] kids) k → 1 ≤ k → k ≤ count x → length kids ≤ i → (line : Line) → k ≡ sum_by size_of (means line kids) + 1
root-here t l s kids x k i left is e h f g line =
    seat-root (means line kids) k i left (e ∙ seat-means [] line kids k) h
    (omega (arith, f, sizes-means line kids, count-known t l s kids, ap count is)) (omega (arith, g, length-means line kids))

pub own-step : (t : Text) (l : ℕ) (s : Values) (kids : List TimedTree) (x : TimedTree) (k i left : ℕ) → known_timed t l s kids ≡ x
    → (i, left) ≡ seat (means [] kids) k → 1 ≤ k → k ≤ count x → length kids ≤ i → IsRoot x k
own-step t l s kids x k i left is e h f g = record {
  whole = λ line. ap (λ (n : Plain). step_at n k) (sym (is-mean line)) ∙ at-root (text_now line t) l (sigma_now line s) (means line kids) k (root-here t l s kids x k i left is e h f g line) ∙ is-mean line;
  top = ap (λ (n : Plain). depth_at n k) (sym (is-mean [])) ∙ depth-root (text_now [] t) l (sigma_now [] s) (means [] kids) k (root-here t l s kids x k i left is e h f g []);
}
  where
    is-mean : (line : Line) → known (text_now line t) l (sigma_now line s) (means line kids) ≡ mean x line
    is-mean line = sym (mean-known t l s kids line) ∙ ap (λ (n : TimedTree). mean n line) is

pub own-leaf : (t : Text) (x : TimedTree) (k : ℕ) → unknown_timed t ≡ x → 1 ≤ k → k ≤ count x → IsRoot x k
own-leaf t x k is h f = let z : k ≡ 1 = omega (arith, count-unknown t, ap count is) in record {
  whole = λ line. ap (λ (n : Plain). step_at n k) (sym (is-mean line)) ∙ at-leaf (text_now line t) k z ∙ is-mean line;
  top = ap (λ (n : Plain). depth_at n k) (sym (is-mean [])) ∙ depth-leaf (text_now [] t) k z;
}
  where
    is-mean : (line : Line) → unknown (text_now line t) ≡ mean x line
    is-mean line = sym (mean-unknown t line) ∙ ap (λ (n : TimedTree). mean n line) is

pub put-own : (t : Text) (l : ℕ) (s : Values) (kids : List TimedTree) (x : TimedTree) (k i left : ℕ) (new : TimedTree) → known_timed t l s kids ≡ x
    → (i, left) ≡ seat (means [] kids) k → 1 ≤ k → k ≤ count x → length kids ≤ i → IsPut x k new new
put-own t l s kids x k i left new is e h f g = record {
  meaning = λ line. sym (ap (λ (n : Plain). put n k (mean new line)) (sym (is-mean line))
      ∙ put-root (text_now line t) l (sigma_now line s) (means line kids) k (mean new line) (root-here t l s kids x k i left is e h f g line));
  births = omega arith;
}
  where
    is-mean : (line : Line) → known (text_now line t) l (sigma_now line s) (means line kids) ≡ mean x line
    is-mean line = sym (mean-known t l s kids line) ∙ ap (λ (n : TimedTree). mean n line) is

pub put-leaf : (t : Text) (x : TimedTree) (k : ℕ) (new : TimedTree) → unknown_timed t ≡ x → IsPut x k new new
put-leaf t x k new is = record {
  meaning = λ line. sym (ap (λ (n : TimedTree). put (mean n line) k (mean new line)) (sym is)
      ∙ ap (λ (n : Plain). put n k (mean new line)) (mean-unknown t line) ∙ put-unknown (text_now line t) k (mean new line));
  births = omega arith;
}

births-set : (xs : List TimedTree) (i : ℕ) (y : TimedTree) → greatest (map youngest (set xs i y)) ≤ max (greatest (map youngest xs)) (youngest y)
births-set [] i y = omega arith
births-set (x ∷ xs) zero y = omega arith
births-set (x ∷ xs) (suc i) y = omega (arith, births-set xs i y)

pub rebuilt : (t : Text) (l : ℕ) (s : Values) (kids now : List TimedTree) (at : ℕ) (child : TimedTree) → now ≡ set kids at child → IsRebuilt t l s kids at child (known_timed t l s now)
rebuilt t l s kids now at child e = record {
  meaning = λ line. mean-known t l s now line
      ∙ ap (λ (n : List TimedTree). known (text_now line t) l (sigma_now line s) (means line n)) e
      ∙ ap (known (text_now line t) l (sigma_now line s)) (map-set (λ (n : TimedTree). mean n line) kids at child);
  births = omega (arith, youngest-known t l s now, births-set kids at child, ap (λ (n : List TimedTree). greatest (map youngest n)) e);
}

-- how many steps a child made anew has, and the children with it
pub put-count : (d : TimedTree) (k : ℕ) (new child : TimedTree) → IsPut d k new child → 1 ≤ k → k ≤ count d → count child ≤ count d + count new
put-count d k new child p h f = omega (
  arith,
  ap size_of (p.meaning []),
  size-put (mean new []) (mean d []) k h (omega (arith, size_of-mean [] d)),
  size_of-mean [] d,
  size_of-mean [] new,
  size_of-mean [] child,
)

pub kid-count : (xs : List TimedTree) (i : ℕ) (d : TimedTree) → i < length xs → count (get_or xs i d) ≤ sum_by count xs
kid-count [] i d h = absurd (omega arith)
kid-count (x ∷ xs) zero d h = omega (arith, sum_by-cons count x xs)
kid-count (x ∷ xs) (suc i) d h = omega (arith, kid-count xs i d (omega arith), sum_by-cons count x xs)

pub set-count : (xs : List TimedTree) (i : ℕ) (y : TimedTree) → sum_by count (set xs i y) ≤ sum_by count xs + count y
set-count [] i y = omega arith
set-count (x ∷ xs) zero y = omega (arith, sum_by-cons count x xs, sum_by-cons count y xs)
set-count (x ∷ xs) (suc i) y = omega (arith, set-count xs i y, sum_by-cons count x xs, sum_by-cons count x (set xs i y))

pub rebuilt-as : (t now-t : Text) (l : ℕ) (s now-s : Values) (kids now : List TimedTree) (at : ℕ) (child y : TimedTree) → y ≡ known_timed now-t l now-s now → now-t ≡ t → now-s ≡ s → now ≡ set kids at child
    → IsRebuilt t l s kids at child y
rebuilt-as t now-t l s now-s kids now at child y is e f g =
    subst (λ (n : TimedTree). IsRebuilt t l s kids at child n) (sym (is ∙ ap (λ (n : Text). known_timed n l now-s now) e ∙ ap (λ (n : Values). known_timed t l n now) f)) (rebuilt t l s kids now at child g)

pub values-set : (xs : List Shared) (i : ℕ) (y : Shared) → values (set xs i y) ≡ set (values xs) i y.value
values-set xs i y = map-set (λ (r : Shared). r.value) xs i y

pub set-counts : (xs : List Shared) (i : ℕ) (y : Shared) → counts (set xs i y) ≤ counts xs + count y.value
set-counts xs i y = omega (arith, counts-values (set xs i y), ap (sum_by count) (values-set xs i y), set-count (values xs) i y.value, counts-values xs)

-- a child by its index
pub value-at : (items : List Shared) (i : ℕ) (kid : Shared) (d : TimedTree) → i < length items → kid ≡ get_or items i kid → d ≡ kid.value → d ≡ get_or (values items) i d
value-at items i kid d h is same = same ∙ ap (λ (r : Shared). r.value) is ∙ sym (get_or-map (λ (r : Shared). r.value) items i kid d h)

pub put-ok : {E : Type 0} (t : Text) (l : ℕ) (s : Values) (items now : List Shared) (x d : TimedTree) (k i left : ℕ) (new child : TimedTree) (result : Result Shared E)
    → IsHolder t l s (values items) x d k i left → IsPut d left new child → now ≡ items → IfOk result (λ r. IsRebuilt t l s (values now) i child r.value) → IfOk result (λ r. IsPut x k new r.value)
put-ok t l s items now x d k i left new child (Ok r) h p e q = h.puts new child r.value p (subst (λ (n : List Shared). IsRebuilt t l s (values n) i child r.value) e q)
put-ok t l s items now x d k i left new child (Err r) h p e q = tt

pub child-count : (t : Text) (l : ℕ) (s : Values) (items now : List Shared) (x d : TimedTree) (k i left : ℕ) (new child : TimedTree) → IsHolder t l s (values items) x d k i left → IsPut d left new child → now ≡ items
    → count x + count new < 4611686018427387904 → counts now + count child < 9223372036854775808
child-count t l s items now x d k i left new child h p e small =
    let a = h.child.smaller in
    omega (arith, h.summed, counts-values items, ap counts e, put-count d left new child p h.child.first h.child.last)
