-- A tree with fresh work variables, its children made from the last one on.
use Rattle.std.proofs.Common.{zero, suc, ◌≡◌, ℕ, ◌+◌, ◌-◌, ◌≤◌, ◌<◌, min, List, [], ◌∷◌, ◌++◌, map, take, drop, length, reverse, get_or, refl, sym, ◌∙◌, ap, arith, Result, Ok, Err, OnOk, true, nat_lt}
use Rattle.std.specs.List.{sum_by}
use Rattle.std.proofs.lemmas.List.{at_drop_more, get_or-drop, get_or-map, length-map, map-append, reverse-append, reverse-reverse, take_all}
use Rattle.std.proofs.lemmas.List.Sums.{sum_by-cons, sum_by_more, sum_by-drop_more}
use Rattle.mm_subst.specs.declared.symbol.WSym.{WSym}
use Rattle.mm_subst.specs.Substitutions.{Pairs, applied}
use Rattle.mm_plain.specs.declared.plain.Plain.{Plain}
use Rattle.mm_plain.specs.Drawing.{draws_by, draws_of, fresh_for, with_fresh, with_fresh_kids}
use Rattle.mm_plain.specs.Premises.{premises_of, variables_for}
use Rattle.mm_plain.specs.Shape.{known, size_of}
use Rattle.mm_plain.proofs.Drawing.{draws_of-known, draws_of-unknown, own_targets, own_values, size_of-with_fresh, with_fresh-known, with_fresh-unknown}
use Rattle.mm_tree.specs.Lines.{Line}
use Rattle.mm_tree.specs.Meanings.{count, mean, means, mean-unknown, mean-known, text_now, sigma_now, known_timed, unknown_timed}
use Rattle.mm_tree.specs.Falls.{count-known}
use Rattle.mm_tree.specs.View.{Shared, values, counts}
use Rattle.mm_tree.specs.Written.{written}
use Rattle.mm_tree.specs.declared.timed.Text.{Text}
use Rattle.mm_tree.specs.declared.timed.Values.{Values}
use Rattle.mm_tree.specs.declared.timed.TimedTree.{TimedTree}
use Rattle.mm_tree.proofs.Kids.{is-known, is-unknown, many-means, mean-at}
use Rattle.mm_tree.proofs.Shapes.{EachTimed, by_timed, labels_in-mean, sizes-means}
use Rattle.mm_tree.proofs.Written.{counts-made, written-known, written-unknown}

-- the bindings make no difference

pub draws-mean : (bytes : List ℕ) (line : Line) (x : TimedTree) → draws_of bytes (mean x line) ≡ draws_of bytes (mean x [])
unfolding draws_of
draws-mean bytes line x = ap (sum_by (draws_by bytes)) (labels_in-mean line x)

draws-means : (bytes : List ℕ) (line : Line) (kids : List TimedTree) → sum_by (draws_of bytes) (means line kids) ≡ sum_by (draws_of bytes) (means [] kids)
draws-means bytes line [] = refl
draws-means bytes line (x ∷ xs) = omega (
  arith,
  sum_by-cons (draws_of bytes) (mean x line) (means line xs),
  sum_by-cons (draws_of bytes) (mean x []) (means [] xs),
  draws-mean bytes line x,
  draws-means bytes line xs,
)

abbrev IsSameFresh : List ℕ → Line → TimedTree → Type 0
IsSameFresh bytes line x = (n : ℕ) (t : List WSym) → with_fresh bytes (mean x line) n t ≡ with_fresh bytes (mean x []) n t

same-kids : (bytes : List ℕ) (line : Line) (kids : List TimedTree) → EachTimed (IsSameFresh bytes line) kids → (n : ℕ) (ts : List (List WSym))
    → with_fresh_kids bytes (means line kids) n ts ≡ with_fresh_kids bytes (means [] kids) n ts
same-kids bytes line [] h n ts = refl
same-kids bytes line (x ∷ xs) h n ts =
    let t : List WSym = get_or ts 0 [] in
    ap (λ (y : Plain). y ∷ with_fresh_kids bytes (means line xs) (n + draws_of bytes (mean x line)) (drop 1 ts)) (h.0 n t)
    ∙ ap (λ (k : ℕ). with_fresh bytes (mean x []) n t ∷ with_fresh_kids bytes (means line xs) (n + k) (drop 1 ts)) (draws-mean bytes line x)
    ∙ ap (λ (ys : List Plain). with_fresh bytes (mean x []) n t ∷ ys) (same-kids bytes line xs h.1 (n + draws_of bytes (mean x [])) (drop 1 ts))

pub fresh-mean : (bytes : List ℕ) (line : Line) (x : TimedTree) (n : ℕ) (t : List WSym) → with_fresh bytes (mean x line) n t ≡ with_fresh bytes (mean x []) n t
fresh-mean bytes line = by_timed (IsSameFresh bytes line)
    (λ t n u. ap (λ (y : Plain). with_fresh bytes y n u) (mean-unknown t line) ∙ with_fresh-unknown bytes (text_now line t) n u
    ∙ sym (ap (λ (y : Plain). with_fresh bytes y n u) (mean-unknown t []) ∙ with_fresh-unknown bytes (text_now [] t) n u))
    (λ t l s kids h n u.
    ap (λ (y : Plain). with_fresh bytes y n u) (mean-known t l s kids line)
    ∙ with_fresh-known bytes (text_now line t) l (sigma_now line s) (means line kids) n u
    ∙ ap (λ (k : ℕ). known u l (fresh_for bytes (n + k) l) (with_fresh_kids bytes (means line kids) n (map (applied (fresh_for bytes (n + k) l)) (premises_of bytes l)))) (draws-means bytes line kids)
    ∙ ap (known u l (own_values bytes l (means [] kids) n)) (same-kids bytes line kids h n (own_targets bytes l (means [] kids) n))
    ∙ sym (ap (λ (y : Plain). with_fresh bytes y n u) (mean-known t l s kids []) ∙ with_fresh-known bytes (text_now [] t) l (sigma_now [] s) (means [] kids) n u))

-- how many work variables are needed, child after child

pub draws-more : (bytes : List ℕ) (items : List Shared) (i needed own new bound : ℕ) (kid : Shared) (x : TimedTree) → i < length items → kid ≡ get_or items i kid → x ≡ kid.value
    → needed ≡ min (sum_by (draws_of bytes) (take i (means [] (values items)))) bound → own ≡ min (draws_of bytes (mean x [])) bound → new ≡ min (needed + own) bound
    → new ≡ min (sum_by (draws_of bytes) (take (i + 1) (means [] (values items)))) bound
draws-more bytes items i needed own new bound kid x h is same so_far e f =
    let ms : List Plain = means [] (values items) in
    omega (
      arith,
      so_far,
      e,
      f,
      sum_by_more (draws_of bytes) ms i (mean x []) (omega (arith, h, many-means [] items)),
      ap (draws_of bytes) (mean-at [] items i kid x h is same),
    )

pub draws-all : (bytes : List ℕ) (t : Text) (l : ℕ) (s : Values) (kids items : List Shared) (x : TimedTree) (i needed own new bound : ℕ) → known_timed t l s (values kids) ≡ x → items ≡ kids → length items ≤ i
    → needed ≡ min (sum_by (draws_of bytes) (take i (means [] (values items)))) bound → own ≡ length (variables_for bytes l) → new ≡ min (needed + own) bound
    → new ≡ min (draws_of bytes (mean x [])) bound
draws-all bytes t l s kids items x i needed own new bound is same h so_far e f = omega (
  arith,
  so_far,
  e,
  f,
  ap (sum_by (draws_of bytes)) (take_all i (means [] (values items)) (omega (arith, h, many-means [] items))),
  ap (λ (ks : List Shared). sum_by (draws_of bytes) (means [] (values ks))) same,
  draws_of-known bytes (text_now [] t) l (sigma_now [] s) (means [] (values kids)),
  ap (draws_of bytes) (is-known t l s (values kids) x is []),
)

-- the work variables of a known step's children, and its own
pub draws-known : (bytes : List ℕ) (t : Text) (l : ℕ) (s : Values) (kids : List TimedTree) (x : TimedTree) → known_timed t l s kids ≡ x
    → draws_of bytes (mean x []) ≡ sum_by (draws_of bytes) (means [] kids) + length (variables_for bytes l)
draws-known bytes t l s kids x is = ap (draws_of bytes) (sym (is-known t l s kids x is [])) ∙ draws_of-known bytes (text_now [] t) l (sigma_now [] s) (means [] kids)

-- one child before those that are made

sum-drop-le : (f : Plain → ℕ) (i : ℕ) (xs : List Plain) → sum_by f (drop i xs) ≤ sum_by f xs
sum-drop-le f zero xs = omega arith
sum-drop-le f (suc i) [] = omega arith
sum-drop-le f (suc i) (x ∷ xs) = omega (arith, sum-drop-le f i xs, sum_by-cons f x xs)

pub sum-earlier : (f : Plain → ℕ) (ms : List Plain) (i : ℕ) (x : Plain) → i < length ms → x ≡ get_or ms i x
    → (sum_by f (drop i ms) ≡ f x + sum_by f (drop (i + 1) ms)) × (f x + sum_by f (drop (i + 1) ms) ≤ sum_by f ms)
sum-earlier f ms i x h at =
    let e : sum_by f (drop i ms) ≡ f x + sum_by f (drop (i + 1) ms) = sum_by-drop_more f ms i x h ∙ ap (λ (y : Plain). f y + sum_by f (drop (i + 1) ms)) (sym at) in
    (e, omega (arith, e, sum-drop-le f i ms))

drop-one : {X : Type 0} (i : ℕ) (xs : List X) → drop 1 (drop i xs) ≡ drop (i + 1) xs
drop-one zero xs = refl
drop-one {X} (suc i) [] = let z : suc i + 1 ≡ suc (i + 1) = omega arith in ap (λ (n : ℕ). drop n none) (sym z)
  where
    none : List X
    none = []
drop-one (suc i) (x ∷ xs) = let z : suc i + 1 ≡ suc (i + 1) = omega arith in drop-one i xs ∙ ap (λ (n : ℕ). drop n (x ∷ xs)) (sym z)

fresh-earlier : (bytes : List ℕ) (ms : List Plain) (i n m : ℕ) (ts : List (List WSym)) (x : Plain) (t : List WSym) → i < length ms → x ≡ get_or ms i x → t ≡ get_or ts i [] → n + draws_of bytes x ≡ m
    → with_fresh_kids bytes (drop i ms) n (drop i ts) ≡ with_fresh bytes x n t ∷ with_fresh_kids bytes (drop (i + 1) ms) m (drop (i + 1) ts)
fresh-earlier bytes ms i n m ts x t h at is e =
    let z : i + 0 ≡ i = omega arith in
    at_drop_more (λ (ys : List Plain). with_fresh_kids bytes ys n (drop i ts)) ms i x h
    ∙ ap (λ (y : Plain). with_fresh bytes y n (get_or (drop i ts) 0 []) ∷ with_fresh_kids bytes (drop (i + 1) ms) (n + draws_of bytes y) (drop 1 (drop i ts))) (sym at)
    ∙ ap (λ (u : List WSym). with_fresh bytes x n u ∷ with_fresh_kids bytes (drop (i + 1) ms) (n + draws_of bytes x) (drop 1 (drop i ts))) (get_or-drop i ts 0 [] ∙ ap (λ (k : ℕ). get_or ts k []) z ∙ sym is)
    ∙ ap (λ (k : ℕ). with_fresh bytes x n t ∷ with_fresh_kids bytes (drop (i + 1) ms) k (drop 1 (drop i ts))) e
    ∙ ap (λ (us : List (List WSym)). with_fresh bytes x n t ∷ with_fresh_kids bytes (drop (i + 1) ms) m us) (drop-one i ts)

pub made-earlier : (birth : ℕ) (bytes : List ℕ) (ms : List Plain) (i n m : ℕ) (ts : List (List WSym)) (x : Plain) (t : List WSym) (y : TimedTree) (front now : List TimedTree) → i < length ms → x ≡ get_or ms i x
    → t ≡ get_or ts i [] → n + draws_of bytes x ≡ m → y ≡ written birth (with_fresh bytes x n t)
    → front ≡ reverse (map (written birth) (with_fresh_kids bytes (drop (i + 1) ms) m (drop (i + 1) ts))) → now ≡ front ++ y ∷ []
    → now ≡ reverse (map (written birth) (with_fresh_kids bytes (drop i ms) n (drop i ts)))
made-earlier birth bytes ms i n m ts x t y front now h at is e made so_far more =
    let ws : List TimedTree = map (written birth) (with_fresh_kids bytes (drop (i + 1) ms) m (drop (i + 1) ts)) in
    more
    ∙ ap (λ (ys : List TimedTree). ys ++ y ∷ []) so_far
    ∙ ap (λ (z : TimedTree). reverse ws ++ z ∷ []) made
    ∙ sym (reverse-append (written birth (with_fresh bytes x n t) ∷ []) ws)
    ∙ ap (λ (ys : List Plain). reverse (map (written birth) ys)) (sym (fresh-earlier bytes ms i n m ts x t h at is e))

values-reverse : (kids : List Shared) → values (reverse kids) ≡ reverse (values kids)
values-reverse [] = refl
values-reverse (x ∷ xs) =
    ap values (reverse-append (x ∷ []) xs)
    ∙ map-append (λ (r : Shared). r.value) (reverse xs) (x ∷ [])
    ∙ ap (λ (ys : List TimedTree). ys ++ x.value ∷ []) (values-reverse xs)
    ∙ sym (reverse-append (x.value ∷ []) (values xs))

-- all children
pub all-made : (birth : ℕ) (bytes : List ℕ) (ms : List Plain) (i n : ℕ) (ts : List (List WSym)) (nodes turned : List Shared) → i ≡ 0
    → values nodes ≡ reverse (map (written birth) (with_fresh_kids bytes (drop i ms) n (drop i ts))) → turned ≡ reverse nodes → values turned ≡ map (written birth) (with_fresh_kids bytes ms n ts)
all-made birth bytes ms i n ts nodes turned none made e =
    ap values e ∙ values-reverse nodes ∙ ap reverse made
    ∙ reverse-reverse (map (written birth) (with_fresh_kids bytes (drop i ms) n (drop i ts)))
    ∙ ap (λ (k : ℕ). map (written birth) (with_fresh_kids bytes (drop k ms) n (drop k ts))) none

sizes-fresh : (bytes : List ℕ) (xs : List Plain) (n : ℕ) (ts : List (List WSym)) → sum_by size_of (with_fresh_kids bytes xs n ts) ≡ sum_by size_of xs
sizes-fresh bytes [] n ts = refl
sizes-fresh bytes (x ∷ xs) n ts =
    sum_by-cons size_of (with_fresh bytes x n (get_or ts 0 [])) (with_fresh_kids bytes xs (n + draws_of bytes x) (drop 1 ts))
    ∙ omega (arith, size_of-with_fresh bytes x n (get_or ts 0 []), sizes-fresh bytes xs (n + draws_of bytes x) (drop 1 ts), sum_by-cons size_of x xs)

pub counts-fresh : (birth : ℕ) (bytes : List ℕ) (ms : List Plain) (n : ℕ) (ts : List (List WSym)) (nodes : List Shared) → values nodes ≡ map (written birth) (with_fresh_kids bytes ms n ts)
    → counts nodes ≡ sum_by size_of ms
counts-fresh birth bytes ms n ts nodes e = counts-made birth (with_fresh_kids bytes ms n ts) nodes e ∙ sizes-fresh bytes ms n ts

-- the known step over them
pub known-fresh : (birth : ℕ) (bytes : List ℕ) (t : Text) (l : ℕ) (s : Values) (kids : List TimedTree) (x y : TimedTree) (n own : ℕ) (target : List WSym) (nodes : List TimedTree) → known_timed t l s kids ≡ x
    → n + sum_by (draws_of bytes) (means [] kids) ≡ own
    → nodes ≡ map (written birth) (with_fresh_kids bytes (means [] kids) n (map (applied (fresh_for bytes own l)) (premises_of bytes l)))
    → y ≡ known_timed (record { birth = birth; string = target }) l (record { birth = birth; pairs = fresh_for bytes own l }) nodes
    → y ≡ written birth (with_fresh bytes (mean x []) n target)
known-fresh birth bytes t l s kids x y n own target nodes is e made f =
    let ms : List Plain = means [] kids in
    f
    ∙ ap (known_timed (record { birth = birth; string = target }) l (record { birth = birth; pairs = fresh_for bytes own l })) made
    ∙ sym (written-known birth target l (fresh_for bytes own l) (with_fresh_kids bytes ms n (map (applied (fresh_for bytes own l)) (premises_of bytes l))))
    ∙ ap (λ (k : ℕ). written birth (known target l (fresh_for bytes k l) (with_fresh_kids bytes ms n (map (applied (fresh_for bytes k l)) (premises_of bytes l))))) (sym e)
    ∙ ap (written birth) (sym (with_fresh-known bytes (text_now [] t) l (sigma_now [] s) ms n target))
    ∙ ap (λ (z : Plain). written birth (with_fresh bytes z n target)) (is-known t l s kids x is [])

pub unknown-fresh : (birth : ℕ) (bytes : List ℕ) (t : Text) (x y : TimedTree) (n : ℕ) (target : List WSym) → unknown_timed t ≡ x → y ≡ unknown_timed (record { birth = birth; string = target })
    → y ≡ written birth (with_fresh bytes (mean x []) n target)
unknown-fresh birth bytes t x y n target is e =
    e
    ∙ sym (written-unknown birth target)
    ∙ ap (written birth) (sym (with_fresh-unknown bytes (text_now [] t) n target))
    ∙ ap (λ (z : Plain). written birth (with_fresh bytes z n target)) (is-unknown t x is [])

pub draws-unknown : (bytes : List ℕ) (t : Text) (x : TimedTree) → unknown_timed t ≡ x → draws_of bytes (mean x []) ≡ 0
draws-unknown bytes t x is = ap (draws_of bytes) (sym (is-unknown t x is [])) ∙ draws_of-unknown bytes (text_now [] t)

-- the steps of the children that are made
pub steps-left : (t : Text) (l : ℕ) (s : Values) (kids : List Shared) (x : TimedTree) (i : ℕ) → known_timed t l s (values kids) ≡ x → sum_by size_of (drop i (means [] (values kids))) + 1 ≤ count x
steps-left t l s kids x i is =
    omega (arith, sum-drop-le size_of i (means [] (values kids)), sizes-means [] (values kids), count-known t l s (values kids), ap count is)

pub on-any : {X E : Type 0} (r : Result X E) (P : Type 0) → P → OnOk r P
on-any (Ok x) P h = h
on-any (Err e) P h = tt

below-by : (m n : ℕ) → true ≡ nat_lt m n → m < n
below-by m n h = grind arith

-- a premise under a substitution, by its place
premise-by : (f : ℕ → List WSym) (g : List WSym → List WSym) (ids : List ℕ) (i id : ℕ) → i < length ids → id ≡ get_or ids i id → g (f id) ≡ get_or (map g (map f ids)) i []
premise-by f g ids i id h is = sym (get_or-map g (map f ids) i [] [] (omega (arith, h, length-map ids f)) ∙ ap g (get_or-map f ids i id [] h ∙ ap f (sym is)))

pub premise-at : (f : ℕ → List WSym) (g : List WSym → List WSym) (ids : List ℕ) (i id : ℕ) → true ≡ nat_lt i (length ids) → id ≡ get_or ids i id → g (f id) ≡ get_or (map g (map f ids)) i []
premise-at f g ids i id e is = premise-by f g ids i id (below-by i (length ids) e) is

pub premise-read : (f : ℕ → List WSym) (g : List WSym → List WSym) (ids : List ℕ) (i d : ℕ) → i < length ids → g (f (get_or ids i d)) ≡ get_or (map g (map f ids)) i []
premise-read f g ids i d h = sym (get_or-map g (map f ids) i [] [] (omega (arith, h, length-map ids f)) ∙ ap g (get_or-map f ids i d [] h))
