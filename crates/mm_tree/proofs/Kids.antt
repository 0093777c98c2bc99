-- The children of a node, one after the other.
use Rattle.std.proofs.Common.{◌≡◌, ℕ, ◌+◌, ◌-◌, ◌≤◌, ◌<◌, Bool, cond, not, is_none, ◌||◌, List, [], ◌∷◌, ◌++◌, map, take, drop, length, get_or, Option, None, Some, refl, sym, ◌∙◌, ap, arith, append_assoc}
use Rattle.std.specs.List.{sum_by, flat_map, list_any}
use Rattle.std.proofs.lemmas.List.{at_drop_more, at_drop_all, get_or-map}
use Rattle.std.proofs.lemmas.List.Sums.{sum_by-cons, sum_by-append, sum_by_more}
use Rattle.mm_subst.specs.Symbols.{has_work, is_same}
use Rattle.mm_plain.specs.declared.plain.Plain.{Plain}
use Rattle.mm_plain.specs.Shape.{known, unknown, size_of, greatest, seat, target_of}
use Rattle.mm_plain.specs.Sources.{label_of, is_pending}
use Rattle.mm_subst.specs.Substitutions.{applied}
use Rattle.mm_subst.specs.Statements.{statement_of}
use Rattle.std.specs.Cmp.Lexicographic.{pointwise}
use Rattle.mm_plain.specs.Numbers.{labels_in, unknowns_among}
use Rattle.mm_plain.proofs.Equations.{target_of-known, target_of-unknown}
use Rattle.mm_plain.proofs.Read.{label_of-known, label_of-unknown, is_pending-known}
use Rattle.mm_plain.proofs.Sizes.{height-le-size}
use Rattle.mm_plain.proofs.Trees.{seat-here, seat-later}
use Rattle.mm_plain.proofs.Walks.{unknowns-below, labels_in-unknown, flat_map-more}
use Rattle.mm_tree.specs.Lines.{Line}
use Rattle.mm_tree.specs.Meanings.{mean, means, mean-unknown, mean-known, text_now, sigma_now, unknown_timed, known_timed, count, tall, unknown_count, is_live, is_live_step, has_values_with_work}
use Rattle.mm_tree.specs.View.{Shared, values, counts}
use Rattle.mm_tree.specs.declared.timed.Text.{Text}
use Rattle.mm_tree.specs.declared.timed.Values.{Values}
use Rattle.mm_tree.specs.declared.timed.TimedTree.{TimedTree}
use Rattle.mm_tree.specs.declared.timed.TimedTree.TheOpen as T
use Rattle.mm_tree.specs.declared.timed.TimedTree.TheFolds as F
use Rattle.mm_tree.proofs.Shapes.{size_of-mean, height_of-mean, unknowns-mean, length-means, length-values}
use Rattle.mm_tree.proofs.Unknowns.{unknowns-known}

-- the seat of a step among the children that are left
pub seat-found : (kids : List Shared) (step i left at size : ℕ) (kid : Shared) (x : TimedTree) → i < length kids → kid ≡ get_or kids i kid → x ≡ kid.value → size ≡ count x → left ≤ size
    → seat (means [] (values kids)) step ≡ ((seat (means [] (values (drop i kids))) left).0 + at, (seat (means [] (values (drop i kids))) left).1)
    → (at, left) ≡ seat (means [] (values kids)) step
seat-found kids step i left at size kid x h is same sized low e =
    let y : TimedTree = (get_or kids i kid).value in
    let z : left ≤ size_of (mean y []) = omega (arith, sized, low, ap count (same ∙ ap (λ (r : Shared). r.value) is), size_of-mean [] y) in
    let here : seat (means [] (values (drop i kids))) left ≡ (0, left) = at_drop_more (λ (ks : List Shared). seat (means [] (values ks)) left) kids i kid h
    ∙ seat-here (mean y []) (means [] (values (drop (i + 1) kids))) left z in
    let nought : 0 + at ≡ at = omega arith in
    sym (e ∙ ap (λ (p : ℕ × ℕ). (p.0 + at, p.1)) here ∙ ap (λ (n : ℕ). (n, left)) nought)

pub seat-next : (kids : List Shared) (step i left at size : ℕ) (kid : Shared) (x : TimedTree) → i < length kids → kid ≡ get_or kids i kid → x ≡ kid.value → size ≡ count x → size < left
    → seat (means [] (values kids)) step ≡ ((seat (means [] (values (drop i kids))) left).0 + at, (seat (means [] (values (drop i kids))) left).1)
    → seat (means [] (values kids)) step ≡ ((seat (means [] (values (drop (i + 1) kids))) (left - size)).0 + (at + 1), (seat (means [] (values (drop (i + 1) kids))) (left - size)).1)
seat-next kids step i left at size kid x h is same sized low e =
    let y : TimedTree = (get_or kids i kid).value in
    let rest : List Plain = means [] (values (drop (i + 1) kids)) in
    let w : size ≡ size_of (mean y []) = sized ∙ ap count (same ∙ ap (λ (r : Shared). r.value) is) ∙ sym (size_of-mean [] y) in
    let later : seat (means [] (values (drop i kids))) left ≡ ((seat rest (left - size)).0 + 1, (seat rest (left - size)).1) = at_drop_more (λ (ks : List Shared). seat (means [] (values ks)) left) kids i kid h
    ∙ seat-later (mean y []) rest left (omega (arith, w, low)) ∙ ap (λ (n : ℕ). ((seat rest (left - n)).0 + 1, (seat rest (left - n)).1)) (sym w) in
    let one : (seat rest (left - size)).0 + 1 + at ≡ (seat rest (left - size)).0 + (at + 1) = omega arith in
    e ∙ ap (λ (p : ℕ × ℕ). (p.0 + at, p.1)) later ∙ ap (λ (n : ℕ). (n, (seat rest (left - size)).1)) one

pub seat-past : (kids : List Shared) (step i left at : ℕ) → length kids ≤ i
    → seat (means [] (values kids)) step ≡ ((seat (means [] (values (drop i kids))) left).0 + at, (seat (means [] (values (drop i kids))) left).1)
    → (at, left) ≡ seat (means [] (values kids)) step
seat-past kids step i left at h e =
    let past : seat (means [] (values (drop i kids))) left ≡ (0, left) = at_drop_all (λ (ks : List Shared). seat (means [] (values ks)) left) kids i h in
    let nought : 0 + at ≡ at = omega arith in
    sym (e ∙ ap (λ (p : ℕ × ℕ). (p.0 + at, p.1)) past ∙ ap (λ (n : ℕ). (n, left)) nought)

-- numbers of a tree are no more than its steps
pub tall-le-count : (x : TimedTree) → tall x ≤ count x
tall-le-count x = omega (arith, height-le-size (mean x []), height_of-mean [] x, size_of-mean [] x)

pub unknown_count-le-count : (x : TimedTree) → unknown_count x ≤ count x
unknown_count-le-count x = omega (arith, unknowns-below (mean x []), unknowns-mean [] x, size_of-mean [] x)

pub talls-le-counts : (kids : List Shared) → greatest (map tall (values kids)) ≤ counts kids
talls-le-counts [] = omega arith
talls-le-counts (x ∷ xs) = omega (arith, talls-le-counts xs, tall-le-count x.value, sum_by-cons (λ (r : Shared). count r.value) x xs)

abbrev pub unknown_counts : List Shared → ℕ
unknown_counts kids = sum_by (λ (r : Shared). unknown_count r.value) kids

pub unknown_counts-le-counts : (kids : List Shared) → unknown_counts kids ≤ counts kids
unknown_counts-le-counts [] = omega arith
unknown_counts-le-counts (x ∷ xs) = omega (arith, unknown_counts-le-counts xs, unknown_count-le-count x.value, sum_by-cons (λ (r : Shared). count r.value) x xs, sum_by-cons (λ (r : Shared). unknown_count r.value) x xs)

pub unknown_counts-left : (kids : List Shared) (i : ℕ) (kid : Shared) → i < length kids → kid ≡ get_or kids i kid → unknown_count kid.value ≤ unknown_counts (drop i kids)
unknown_counts-left kids i kid h is = omega (
  arith,
  at_drop_more unknown_counts kids i kid h,
  sum_by-cons (λ (r : Shared). unknown_count r.value) (get_or kids i kid) (drop (i + 1) kids),
  ap (λ (r : Shared). unknown_count r.value) is,
)

pub unknown_count-unknown : (t : Text) → unknown_count (unknown_timed t) ≡ 1
unknown_count-unknown t = sym (unknowns-mean [] (unknown_timed t)) ∙ ap (λ (p : Plain). unknowns_among (labels_in p)) (mean-unknown t []) ∙ ap unknowns_among (labels_in-unknown (text_now [] t))

unknowns-sum : (kids : List Shared) → unknowns_among (flat_map labels_in (means [] (values kids))) ≡ unknown_counts kids
unknowns-sum [] = refl
unknowns-sum (x ∷ xs) = sum_by-append (λ (o : Option ℕ). cond (is_none o) 1 0) (labels_in (mean x.value [])) (flat_map labels_in (means [] (values xs)))
    ∙ omega (arith, unknowns-mean [] x.value, unknowns-sum xs, sum_by-cons (λ (r : Shared). unknown_count r.value) x xs)

pub unknown_count-known : (t : Text) (l : ℕ) (s : Values) (kids : List Shared) → unknown_count (known_timed t l s (values kids)) ≡ unknown_counts kids
unknown_count-known t l s kids =
    sym (unknowns-mean [] (known_timed t l s (values kids))) ∙ ap (λ (p : Plain). unknowns_among (labels_in p)) (mean-known t l s (values kids) [])
    ∙ unknowns-known (text_now [] t) l (sigma_now [] s) (means [] (values kids)) ∙ unknowns-sum kids

pub is_live-unknown : (t : Text) → is_live (unknown_timed t) ≡ has_work t.string
unfolding is_live
is_live-unknown t = F.fold-roll-TimedTree Bool is_live_step (T.Unknown t)

any-map : {X Y : Type 0} (f : Y → Bool) (g : X → Y) (xs : List X) → list_any f (map g xs) ≡ list_any (λ x. f (g x)) xs
any-map f g [] = refl
any-map f g (x ∷ xs) = ap (λ (b : Bool). f (g x) || b) (any-map f g xs)

pub is_live-known : (t : Text) (l : ℕ) (s : Values) (kids : List TimedTree)
    → is_live (known_timed t l s kids) ≡ (has_work t.string || (has_values_with_work s.pairs || list_any is_live kids))
unfolding is_live
is_live-known t l s kids = F.fold-roll-TimedTree Bool is_live_step (T.Known t l s kids)
    ∙ ap (λ (b : Bool). has_work t.string || (has_values_with_work s.pairs || b)) (any-map (λ (b : Bool). b) is_live kids)

pub is_live-shared : (t : Text) (l : ℕ) (s : Values) (kids : List Shared)
    → is_live (known_timed t l s (values kids)) ≡ (has_work t.string || (has_values_with_work s.pairs || list_any (λ (r : Shared). is_live r.value) kids))
is_live-shared t l s kids = is_live-known t l s (values kids) ∙ ap (λ (b : Bool). has_work t.string || (has_values_with_work s.pairs || b)) (any-map is_live (λ (r : Shared). r.value) kids)

-- a known step, and an unknown one, under bindings
pub is-known : (t : Text) (l : ℕ) (s : Values) (kids : List TimedTree) (x : TimedTree) → known_timed t l s kids ≡ x → (line : Line) → known (text_now line t) l (sigma_now line s) (means line kids) ≡ mean x line
is-known t l s kids x is line = sym (mean-known t l s kids line) ∙ ap (λ (y : TimedTree). mean y line) is

pub is-unknown : (t : Text) (x : TimedTree) → unknown_timed t ≡ x → (line : Line) → unknown (text_now line t) ≡ mean x line
is-unknown t x is line = sym (mean-unknown t line) ∙ ap (λ (y : TimedTree). mean y line) is

pub target-known : (t : Text) (l : ℕ) (s : Values) (kids : List TimedTree) (x : TimedTree) → known_timed t l s kids ≡ x → (line : Line) → text_now line t ≡ target_of (mean x line)
target-known t l s kids x is line = sym (target_of-known (text_now line t) l (sigma_now line s) (means line kids)) ∙ ap target_of (is-known t l s kids x is line)

pub target-unknown : (t : Text) (x : TimedTree) → unknown_timed t ≡ x → (line : Line) → text_now line t ≡ target_of (mean x line)
target-unknown t x is line = sym (target_of-unknown (text_now line t)) ∙ ap target_of (is-unknown t x is line)

pub label-known : (t : Text) (l : ℕ) (s : Values) (kids : List TimedTree) (x : TimedTree) → known_timed t l s kids ≡ x → (line : Line) → Some l ≡ label_of (mean x line)
label-known t l s kids x is line = sym (label_of-known (text_now line t) l (sigma_now line s) (means line kids)) ∙ ap label_of (is-known t l s kids x is line)

pub label-unknown : (t : Text) (x : TimedTree) → unknown_timed t ≡ x → (line : Line) → None ≡ label_of (mean x line)
label-unknown t x is line = sym (label_of-unknown (text_now line t)) ∙ ap label_of (is-unknown t x is line)

-- a child among the children's plain trees
pub mean-at : (line : Line) (items : List Shared) (i : ℕ) (kid : Shared) (x : TimedTree) → i < length items → kid ≡ get_or items i kid → x ≡ kid.value
    → mean x line ≡ get_or (means line (values items)) i (mean x line)
mean-at line items i kid x h is same =
    ap (λ (y : TimedTree). mean y line) (same ∙ ap (λ (r : Shared). r.value) is ∙ sym (get_or-map (λ (r : Shared). r.value) items i kid kid.value h))
    ∙ sym (get_or-map (λ (y : TimedTree). mean y line) (values items) i kid.value (mean x line) (omega (arith, h, length-values items)))

pub many-means : (line : Line) (items : List Shared) → length (means line (values items)) ≡ length items
many-means line items = length-means line (values items) ∙ length-values items

pub labels-more : (items : List Shared) (i : ℕ) (kid : Shared) (x : TimedTree) (front now new : List (Option ℕ)) → i < length items → kid ≡ get_or items i kid → x ≡ kid.value
    → now ≡ front ++ flat_map labels_in (take i (means [] (values items))) → new ≡ now ++ labels_in (mean x []) → new ≡ front ++ flat_map labels_in (take (i + 1) (means [] (values items)))
labels-more items i kid x front now new h is same so_far more =
    more ∙ ap (λ (n : List (Option ℕ)). n ++ labels_in (mean x [])) so_far
    ∙ append_assoc front (flat_map labels_in (take i (means [] (values items)))) (labels_in (mean x []))
    ∙ ap (λ (p : Plain). front ++ (flat_map labels_in (take i (means [] (values items))) ++ labels_in p)) (mean-at [] items i kid x h is same)
    ∙ ap (λ (n : List (Option ℕ)). front ++ n) (sym (flat_map-more labels_in (means [] (values items)) i (mean x []) (omega (arith, h, many-means [] items))))

-- the number of the first step behind a child is no less than its steps
pub number-holds : (kids : List Plain) (at first number size : ℕ) (kid : Plain) → 0 < at → at ≤ length kids → kid ≡ get_or kids (at - 1) kid → size ≡ size_of kid → number ≡ first + sum_by size_of (take at kids) → size ≤ number
number-holds kids at first number size kid some h is sized e =
    let z : at - 1 + 1 ≡ at = omega (arith, some) in
    omega (arith, e, sized, ap size_of is, sum_by_more size_of kids (at - 1) kid (omega (arith, some, h)), ap (λ (n : ℕ). sum_by size_of (take n kids)) z)

-- whether a known step is pending under bindings
pub pending-by : (bytes : List ℕ) (line : Line) (t now-t : Text) (l : ℕ) (s now-s : Values) (kids : List TimedTree) (x : TimedTree) (r b : Bool) → known_timed t l s kids ≡ x → now-t ≡ t → now-s ≡ s
    → r ≡ pointwise is_same (text_now line now-t) (applied (sigma_now line now-s) (statement_of bytes l)) → r ≡ b → is_pending bytes (mean x line) ≡ not b
pending-by bytes line t now-t l s now-s kids x r b is e f test told =
    ap (is_pending bytes) (sym (is-known t l s kids x is line))
    ∙ is_pending-known bytes (text_now line t) l (sigma_now line s) (means line kids)
    ∙ ap not (sym (test ∙ ap (λ (n : Text). pointwise is_same (text_now line n) (applied (sigma_now line now-s) (statement_of bytes l))) e
    ∙ ap (λ (n : Values). pointwise is_same (text_now line t) (applied (sigma_now line n) (statement_of bytes l))) f) ∙ told)
