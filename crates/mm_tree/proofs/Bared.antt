-- A tree as it is kept, in which children for floating hypotheses are unknown: what it means, and its births.
use Rattle.std.proofs.Common.{zero, suc, ◌≡◌, ℕ, ◌+◌, ◌≤◌, ◌<◌, max, Bool, true, false, if◌then◌else◌, List, [], ◌∷◌, ◌++◌, map, take, length, get_or, Option, None, Some, is_some, refl, sym, ◌∙◌, ap, subst, arith}
use Rattle.std.specs.List.{All, AllByRecursion as ByRecursion, slice_get, sum_by}
use Rattle.std.proofs.lemmas.Bool.{true≢false}
use Rattle.std.proofs.lemmas.List.Elements.{All-from_recursion}
use Rattle.std.proofs.lemmas.List.{take_all, take_more, get_or-map, length-map}
use Rattle.mm_subst.specs.declared.symbol.WSym.{WSym}
use Rattle.mm_plain.specs.declared.plain.Plain.{Plain}
use Rattle.mm_plain.specs.Floats.{is_float, without_floats, bared}
use Rattle.mm_plain.specs.Numbers.{labels_in, IsOwnLabel, HasOwnLabels}
use Rattle.mm_plain.specs.Premises.{premise_ids}
use Rattle.mm_plain.specs.Sources.{label_of}
use Rattle.mm_plain.specs.Shape.{Each, unknown, known, size_of, steps_of, depth_at, put, greatest, target_of}
use Rattle.mm_plain.proofs.Children.{put_last}
use Rattle.mm_plain.proofs.Equations.{by_trees, size_of-pos, size_of-unknown, size_of-known, target_of-unknown, target_of-known}
use Rattle.mm_plain.proofs.Owned.{own-labels}
use Rattle.mm_plain.proofs.Sizes.{depth-leaf, depth-root}
use Rattle.mm_plain.proofs.Floats.{bared-unknown, bared-known, size-bared}
use Rattle.mm_tree.specs.Lines.{Line}
use Rattle.mm_tree.specs.Meanings.{mean, means, mean-unknown, mean-known, text_now, sigma_now, unknown_timed, known_timed, count, youngest}
use Rattle.mm_tree.specs.Floats.{text_layer, text_of, without_floats_timed, bared_timed_step, bared_timed, is_float_at, bared_as, new_or}
use Rattle.mm_tree.specs.Falls.{count-known}
use Rattle.mm_tree.specs.View.{Shared, values, counts}
use Rattle.mm_tree.specs.declared.timed.Text.{Text}
use Rattle.mm_tree.specs.declared.timed.Values.{Values}
use Rattle.mm_tree.specs.declared.timed.TimedTree.{TimedTree}
use Rattle.mm_tree.specs.declared.timed.TimedTree.TheOpen as T
use Rattle.mm_tree.specs.declared.timed.TimedTree.TheViews as V
use Rattle.mm_tree.specs.declared.timed.TimedTree.TheFolds as F
use Rattle.mm_tree.proofs.Paths.{value-at}
use Rattle.mm_tree.proofs.Shapes.{EachTimed, by_timed, labels_in-mean, size_of-mean, counts-values, length-values, youngest-unknown, youngest-known}

pub text_of-unknown : (t : Text) → text_of (unknown_timed t) ≡ t
unfolding text_of
text_of-unknown t = ap text_layer (V.out-roll-TimedTree (T.Unknown t))

pub text_of-known : (t : Text) (l : ℕ) (s : Values) (kids : List TimedTree) → text_of (known_timed t l s kids) ≡ t
unfolding text_of
text_of-known t l s kids = ap text_layer (V.out-roll-TimedTree (T.Known t l s kids))

pub bared_timed-unknown : (bytes : List ℕ) (t : Text) → bared_timed bytes (unknown_timed t) ≡ unknown_timed t
unfolding bared_timed
bared_timed-unknown bytes t = F.fold-roll-TimedTree TimedTree (bared_timed_step bytes) (T.Unknown t)

pub bared_timed-known : (bytes : List ℕ) (t : Text) (l : ℕ) (s : Values) (kids : List TimedTree)
    → bared_timed bytes (known_timed t l s kids) ≡ known_timed t l s (without_floats_timed bytes (premise_ids bytes l) (map (bared_timed bytes) kids))
unfolding bared_timed
bared_timed-known bytes t l s kids = F.fold-roll-TimedTree TimedTree (bared_timed_step bytes) (T.Known t l s kids)

text_of-bared : (bytes : List ℕ) (x : TimedTree) → text_of (bared_timed bytes x) ≡ text_of x
text_of-bared bytes = by_timed (λ x. text_of (bared_timed bytes x) ≡ text_of x)
    (λ t. ap text_of (bared_timed-unknown bytes t))
    (λ t l s kids h. ap text_of (bared_timed-known bytes t l s kids) ∙ text_of-known t l s (without_floats_timed bytes (premise_ids bytes l) (map (bared_timed bytes) kids)) ∙ sym (text_of-known t l s kids))

-- the string of a step, as it is kept, is its target
text-target : (line : Line) (x : TimedTree) → text_now line (text_of x) ≡ target_of (mean x line)
text-target line = by_timed (λ x. text_now line (text_of x) ≡ target_of (mean x line))
    (λ t. ap (text_now line) (text_of-unknown t) ∙ sym (ap target_of (mean-unknown t line) ∙ target_of-unknown (text_now line t)))
    (λ t l s kids h. ap (text_now line) (text_of-known t l s kids) ∙ sym (ap target_of (mean-known t l s kids line) ∙ target_of-known (text_now line t) l (sigma_now line s) (means line kids)))

-- what it means

mean-place : (line : Line) (b : Bool) (y : TimedTree) (z : Plain) → mean y line ≡ z → mean (if b then unknown_timed (text_of y) else y) line ≡ (if b then unknown (target_of z) else z)
mean-place line true y z e = mean-unknown (text_of y) line ∙ ap unknown (text-target line y ∙ ap target_of e)
mean-place line false y z e = e

abbrev MeansBared : List ℕ → Line → TimedTree → Type 0
MeansBared bytes line x = mean (bared_timed bytes x) line ≡ bared bytes (mean x line)

means-bared : (bytes : List ℕ) (line : Line) (ids : List ℕ) (kids : List TimedTree) → EachTimed (MeansBared bytes line) kids
    → means line (without_floats_timed bytes ids (map (bared_timed bytes) kids)) ≡ without_floats bytes ids (map (bared bytes) (means line kids))
means-bared bytes line [] [] h = refl
means-bared bytes line [] (x ∷ xs) h =
    ap (λ (y : Plain). y ∷ means line (map (bared_timed bytes) xs)) h.0
    ∙ ap (λ (ys : List Plain). bared bytes (mean x line) ∷ ys) (means-bared bytes line [] xs h.1)
means-bared bytes line (id ∷ ids) [] h = refl
means-bared bytes line (id ∷ ids) (x ∷ xs) h =
    let z : Plain = if is_float bytes id then unknown (target_of (bared bytes (mean x line))) else bared bytes (mean x line) in
    ap (λ (y : Plain). y ∷ means line (without_floats_timed bytes ids (map (bared_timed bytes) xs))) (mean-place line (is_float bytes id) (bared_timed bytes x) (bared bytes (mean x line)) h.0)
    ∙ ap (λ (ys : List Plain). z ∷ ys) (means-bared bytes line ids xs h.1)

pub mean-bared : (bytes : List ℕ) (line : Line) (x : TimedTree) → mean (bared_timed bytes x) line ≡ bared bytes (mean x line)
mean-bared bytes line = by_timed (MeansBared bytes line)
    (λ t. ap (λ (y : TimedTree). mean y line) (bared_timed-unknown bytes t) ∙ mean-unknown t line ∙ sym (ap (bared bytes) (mean-unknown t line) ∙ bared-unknown bytes (text_now line t)))
    (λ t l s kids h.
    ap (λ (y : TimedTree). mean y line) (bared_timed-known bytes t l s kids)
    ∙ mean-known t l s (without_floats_timed bytes (premise_ids bytes l) (map (bared_timed bytes) kids)) line
    ∙ ap (known (text_now line t) l (sigma_now line s)) (means-bared bytes line (premise_ids bytes l) kids h)
    ∙ sym (ap (bared bytes) (mean-known t l s kids line) ∙ bared-known bytes (text_now line t) l (sigma_now line s) (means line kids)))

-- its births

text-young : (x : TimedTree) → (text_of x).birth ≤ youngest x
text-young = by_timed (λ x. (text_of x).birth ≤ youngest x)
    (λ t. omega (arith, ap (λ (u : Text). u.birth) (text_of-unknown t), youngest-unknown t))
    (λ t l s kids h. omega (arith, ap (λ (u : Text). u.birth) (text_of-known t l s kids), youngest-known t l s kids))

young-place : (b : Bool) (y : TimedTree) (n : ℕ) → youngest y ≤ n → youngest (if b then unknown_timed (text_of y) else y) ≤ n
young-place true y n h = omega (arith, youngest-unknown (text_of y), text-young y)
young-place false y n h = h

young-kids : (bytes ids : List ℕ) (kids : List TimedTree) → EachTimed (λ x. youngest (bared_timed bytes x) ≤ youngest x) kids
    → greatest (map youngest (without_floats_timed bytes ids (map (bared_timed bytes) kids))) ≤ greatest (map youngest kids)
young-kids bytes [] [] h = omega arith
young-kids bytes [] (x ∷ xs) h = let one = h.0 in omega (arith, young-kids bytes [] xs h.1)
young-kids bytes (id ∷ ids) [] h = omega arith
young-kids bytes (id ∷ ids) (x ∷ xs) h = omega (arith, young-kids bytes ids xs h.1, young-place (is_float bytes id) (bared_timed bytes x) (youngest x) h.0)

pub young-bared : (bytes : List ℕ) (x : TimedTree) → youngest (bared_timed bytes x) ≤ youngest x
young-bared bytes = by_timed (λ x. youngest (bared_timed bytes x) ≤ youngest x)
    (λ t. let e = ap youngest (bared_timed-unknown bytes t) in omega arith)
    (λ t l s kids h. omega (
      arith,
      ap youngest (bared_timed-known bytes t l s kids),
      youngest-known t l s (without_floats_timed bytes (premise_ids bytes l) (map (bared_timed bytes) kids)),
      youngest-known t l s kids,
      young-kids bytes (premise_ids bytes l) kids h,
    ))

-- the children, one after the other

abbrev pub bared_kids : List ℕ → ℕ → List TimedTree → List TimedTree
bared_kids bytes l kids = without_floats_timed bytes (premise_ids bytes l) (map (bared_timed bytes) kids)

length-without : (bytes ids : List ℕ) (xs : List TimedTree) → length (without_floats_timed bytes ids xs) ≡ length xs
length-without bytes [] xs = refl
length-without bytes (id ∷ ids) [] = refl
length-without bytes (id ∷ ids) (x ∷ xs) = ap suc (length-without bytes ids xs)

without-at : (bytes ids : List ℕ) (xs : List TimedTree) (i : ℕ) (d : TimedTree) → i < length xs
    → get_or (without_floats_timed bytes ids xs) i d ≡ (if is_float_at bytes ids i then unknown_timed (text_of (get_or xs i d)) else get_or xs i d)
without-at bytes [] xs i d h = refl
without-at bytes (id ∷ ids) [] i d h = absurd (omega arith)
without-at bytes (id ∷ ids) (x ∷ xs) zero d h = refl
without-at bytes (id ∷ ids) (x ∷ xs) (suc i) d h = without-at bytes ids xs i d (omega arith)

as-bared : (bytes : List ℕ) (b : Bool) (x : TimedTree) → (if b then unknown_timed (text_of (bared_timed bytes x)) else bared_timed bytes x) ≡ bared_as bytes b x
as-bared bytes true x = ap unknown_timed (text_of-bared bytes x)
as-bared bytes false x = refl

pub many-bared : (bytes : List ℕ) (l : ℕ) (kids : List TimedTree) → length (bared_kids bytes l kids) ≡ length kids
many-bared bytes l kids = length-without bytes (premise_ids bytes l) (map (bared_timed bytes) kids) ∙ length-map kids (bared_timed bytes)

pub bared-at : (bytes : List ℕ) (l : ℕ) (kids : List TimedTree) (i : ℕ) (d : TimedTree) → i < length kids
    → get_or (bared_kids bytes l kids) i d ≡ bared_as bytes (is_float_at bytes (premise_ids bytes l) i) (get_or kids i d)
bared-at bytes l kids i d h =
    let b : Bool = is_float_at bytes (premise_ids bytes l) i in
    without-at bytes (premise_ids bytes l) (map (bared_timed bytes) kids) i d (omega (arith, length-map kids (bared_timed bytes), h))
    ∙ ap (λ (y : TimedTree). if b then unknown_timed (text_of y) else y) (get_or-map (bared_timed bytes) kids i d d h)
    ∙ as-bared bytes b (get_or kids i d)

pub bared-more : (bytes : List ℕ) (l : ℕ) (items : List Shared) (i : ℕ) (kid : Shared) (b : Bool) (y : TimedTree) (front now : List TimedTree) → i < length items → kid ≡ get_or items i kid
    → b ≡ is_float_at bytes (premise_ids bytes l) i → y ≡ bared_as bytes b kid.value → front ≡ take i (bared_kids bytes l (values items)) → now ≡ front ++ y ∷ []
    → now ≡ take (i + 1) (bared_kids bytes l (values items))
bared-more bytes l items i kid b y front now h is float e so_far more =
    let all : List TimedTree = bared_kids bytes l (values items) in
    let f : Bool = is_float_at bytes (premise_ids bytes l) i in
    let h2 : i < length (values items) = omega (arith, h, length-values items) in
    let h3 : i < length all = omega (arith, h2, many-bared bytes l (values items)) in
    more
    ∙ ap (λ (ys : List TimedTree). ys ++ y ∷ []) so_far
    ∙ ap (λ (z : TimedTree). take i all ++ z ∷ []) (e ∙ ap (λ (c : Bool). bared_as bytes c kid.value) float ∙ ap (bared_as bytes f) (value-at items i kid kid.value h is refl)
    ∙ sym (bared-at bytes l (values items) i kid.value h2))
    ∙ sym (take_more all i kid.value h3)

pub same-more : (bytes : List ℕ) (l : ℕ) (items : List Shared) (i : ℕ) (kid : Shared) (b : Bool) → i < length items → kid ≡ get_or items i kid
    → b ≡ is_float_at bytes (premise_ids bytes l) i → kid.value ≡ bared_as bytes b kid.value → take i (bared_kids bytes l (values items)) ≡ take i (values items)
    → take (i + 1) (bared_kids bytes l (values items)) ≡ take (i + 1) (values items)
same-more bytes l items i kid b h is float e so_far =
    let all : List TimedTree = bared_kids bytes l (values items) in
    let f : Bool = is_float_at bytes (premise_ids bytes l) i in
    let at = value-at items i kid kid.value h is refl in
    let h2 : i < length (values items) = omega (arith, h, length-values items) in
    let h3 : i < length all = omega (arith, h2, many-bared bytes l (values items)) in
    take_more all i kid.value h3
    ∙ ap (λ (ys : List TimedTree). ys ++ get_or all i kid.value ∷ []) so_far
    ∙ ap (λ (z : TimedTree). take i (values items) ++ z ∷ []) (bared-at bytes l (values items) i kid.value h2
    ∙ ap (bared_as bytes f) (sym at) ∙ sym (e ∙ ap (λ (c : Bool). bared_as bytes c kid.value) float) ∙ at)
    ∙ sym (take_more (values items) i kid.value h2)

-- a tree of which no child changes
pub bared-same : (bytes : List ℕ) (t : Text) (l : ℕ) (s : Values) (items : List Shared) (x : TimedTree) (i : ℕ) → known_timed t l s (values items) ≡ x → length items ≤ i
    → take i (bared_kids bytes l (values items)) ≡ take i (values items) → x ≡ bared_timed bytes x
bared-same bytes t l s items x i is h same =
    let all : List TimedTree = bared_kids bytes l (values items) in
    let w : all ≡ values items = sym (take_all i all (omega (arith, h, many-bared bytes l (values items), length-values items))) ∙ same ∙ take_all i (values items) (omega (arith, h, length-values items)) in
    sym (ap (bared_timed bytes) (sym is) ∙ bared_timed-known bytes t l s (values items) ∙ ap (known_timed t l s) w ∙ is)

-- a tree made anew over the new children
pub bared-anew : (bytes : List ℕ) (t : Text) (l : ℕ) (s : Values) (items : List Shared) (x y : TimedTree) (now : List TimedTree) (i : ℕ) → known_timed t l s (values items) ≡ x → length items ≤ i
    → now ≡ take i (bared_kids bytes l (values items)) → y ≡ known_timed t l s now → y ≡ bared_timed bytes x
bared-anew bytes t l s items x y now i is h made e =
    let all : List TimedTree = bared_kids bytes l (values items) in
    e ∙ ap (known_timed t l s) (made ∙ take_all i all (omega (arith, h, many-bared bytes l (values items), length-values items)))
    ∙ sym (bared_timed-known bytes t l s (values items)) ∙ ap (bared_timed bytes) is

pub bared-leaf : (bytes : List ℕ) (t : Text) (x : TimedTree) (b : Bool) → unknown_timed t ≡ x → x ≡ bared_as bytes b x
bared-leaf bytes t x true is = sym is ∙ ap unknown_timed (sym (text_of-unknown t)) ∙ ap (λ (y : TimedTree). unknown_timed (text_of y)) is
bared-leaf bytes t x false is = sym is ∙ sym (bared_timed-unknown bytes t) ∙ ap (bared_timed bytes) is

pub bared-float : (bytes : List ℕ) (t : Text) (l : ℕ) (s : Values) (kids : List TimedTree) (x y : TimedTree) (b : Bool) → known_timed t l s kids ≡ x → b ≡ true → y ≡ unknown_timed t → y ≡ bared_as bytes b x
bared-float bytes t l s kids x y b is e f =
    f ∙ ap unknown_timed (sym (text_of-known t l s kids) ∙ ap text_of is) ∙ ap (λ (c : Bool). bared_as bytes c x) (sym e)

-- a root has no step above it
pub depth_last : (x : Plain) → depth_at x (size_of x) ≡ 0
depth_last = by_trees (λ x. depth_at x (size_of x) ≡ 0)
    (λ t. depth-leaf t (size_of (unknown t)) (size_of-unknown t))
    (λ t l s kids e. depth-root t l s kids (size_of (known t l s kids)) (size_of-known t l s kids))

-- the labels are the database's own under any bindings

labels-back : (bytes : List ℕ) (ys : List Plain) → Each (λ y. IsOwnLabel bytes (label_of y)) ys → ByRecursion (IsOwnLabel bytes) (map label_of ys)
labels-back bytes [] h = tt
labels-back bytes (y ∷ ys) h = (h.0, labels-back bytes ys h.1)

pub own-line : (bytes : List ℕ) (a b : Line) (x : TimedTree) → HasOwnLabels bytes (mean x a) → HasOwnLabels bytes (mean x b)
unfolding HasOwnLabels
own-line bytes a b x h = own-labels bytes (mean x b)
    (subst (All (IsOwnLabel bytes)) (labels_in-mean a x ∙ sym (labels_in-mean b x)) (All-from_recursion (IsOwnLabel bytes) (labels_in (mean x a)) (labels-back bytes (steps_of (mean x a)) h)))

-- for one call

pub count-pos : (x : TimedTree) → 1 ≤ count x
count-pos x = omega (arith, size_of-mean [] x, size_of-pos (mean x []))

pub new-none : (o : Option Shared) (x y : TimedTree) → is_some o ≡ false → new_or o x ≡ y → x ≡ y
new-none None x y h e = e
new-none (Some r) x y h e = absurd (true≢false h)

-- the tree over the new children has no more steps
pub bared-few : (bytes : List ℕ) (t : Text) (l : ℕ) (s : Values) (items now : List Shared) (x : TimedTree) (i : ℕ) → known_timed t l s (values items) ≡ x → length items ≤ i
    → values now ≡ take i (bared_kids bytes l (values items)) → counts now + 1 ≤ count x
bared-few bytes t l s items now x i is h made = omega (
  arith,
  count-known t l s (values now),
  counts-values now,
  ap count (bared-anew bytes t l s items x (known_timed t l s (values now)) (values now) i is h made refl),
  size_of-mean [] (bared_timed bytes x),
  ap size_of (mean-bared bytes [] x),
  size-bared bytes (mean x []),
  size_of-mean [] x,
)

pub cleared-mean : (bytes : List ℕ) (line : Line) (x y : TimedTree) (p : Plain) → mean x line ≡ p → y ≡ bared_timed bytes x → mean y line ≡ bared bytes p
cleared-mean bytes line x y p is e = ap (λ (z : TimedTree). mean z line) e ∙ mean-bared bytes line x ∙ ap (bared bytes) is

pub put-bared : (bytes : List ℕ) (p : Plain) (k : ℕ) (new : Plain) → k ≡ size_of p → new ≡ bared bytes p → put p k new ≡ bared bytes p
put-bared bytes p k new e f = ap (λ (n : ℕ). put p n new) e ∙ put_last p new ∙ f
