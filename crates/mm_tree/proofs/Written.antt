-- A plain tree as it is kept means itself, and is as young as it is said to be.
use Rattle.std.proofs.Common.{◌≡◌, ℕ, ◌+◌, ◌≤◌, ◌<◌, List, [], ◌∷◌, ◌++◌, map, take, length, get_or, refl, sym, ◌∙◌, ap, arith}
use Rattle.std.specs.List.{sum_by}
use Rattle.std.proofs.lemmas.List.{map-append, take_all, take_more}
use Rattle.std.proofs.lemmas.List.Sums.{sum_by-cons, sum_by_more}
use Rattle.mm_subst.specs.declared.symbol.WSym.{WSym}
use Rattle.mm_subst.specs.Substitutions.{Pairs}
use Rattle.mm_plain.specs.declared.plain.Plain.{Plain}
use Rattle.mm_plain.specs.declared.plain.Plain.TheOpen as L
use Rattle.mm_plain.specs.declared.plain.Plain.TheFolds as F
use Rattle.mm_plain.specs.Shape.{Each, unknown, known, size_of, height_of, greatest}
use Rattle.mm_plain.proofs.Equations.{by_trees}
use Rattle.mm_plain.proofs.Walks.{kid-below}
use Rattle.mm_tree.specs.Lines.{Line, values_now}
use Rattle.mm_tree.specs.Falls.{count-known}
use Rattle.mm_tree.specs.Meanings.{mean, means, mean-unknown, mean-known, text_now, sigma_now, unknown_timed, known_timed, count, tall, youngest}
use Rattle.mm_tree.specs.View.{Shared, values, counts}
use Rattle.mm_tree.specs.Written.{written_step, written}
use Rattle.mm_tree.specs.declared.timed.Text.{Text}
use Rattle.mm_tree.specs.declared.timed.Values.{Values}
use Rattle.mm_tree.specs.declared.timed.TimedTree.{TimedTree}
use Rattle.mm_tree.proofs.Bindings.{string-new, values-new}
use Rattle.mm_tree.proofs.Kids.{is-known, is-unknown, many-means, mean-at}
use Rattle.mm_tree.proofs.Shapes.{size_of-mean, height_of-mean, sizes-means, counts-values, youngest-unknown, youngest-known}

pub written-unknown : (birth : ℕ) (t : List WSym) → written birth (unknown t) ≡ unknown_timed (record { birth = birth; string = t })
unfolding written
written-unknown birth t = F.fold-roll-Plain TimedTree (written_step birth) (L.Unknown t)

pub written-known : (birth : ℕ) (t : List WSym) (l : ℕ) (s : Pairs) (kids : List Plain)
    → written birth (known t l s kids) ≡ known_timed (record { birth = birth; string = t }) l (record { birth = birth; pairs = s }) (map (written birth) kids)
unfolding written
written-known birth t l s kids = F.fold-roll-Plain TimedTree (written_step birth) (L.Known t l s kids)

means-written : (birth : ℕ) (line : Line) (kids : List Plain) → Each (λ x. mean (written birth x) line ≡ x) kids → means line (map (written birth) kids) ≡ kids
means-written birth line [] h = refl
means-written birth line (x ∷ xs) h = ap (λ (y : Plain). y ∷ means line (map (written birth) xs)) h.0 ∙ ap (λ (ys : List Plain). x ∷ ys) (means-written birth line xs h.1)

pub mean-written : (birth : ℕ) (line : Line) → length line ≤ birth → (x : Plain) → mean (written birth x) line ≡ x
mean-written birth line h = by_trees (λ x. mean (written birth x) line ≡ x)
    (λ t. ap (λ (y : TimedTree). mean y line) (written-unknown birth t) ∙ mean-unknown (record { birth = birth; string = t }) line ∙ ap unknown (string-new line birth t h))
    (λ t l s kids e.
    ap (λ (y : TimedTree). mean y line) (written-known birth t l s kids)
    ∙ mean-known (record { birth = birth; string = t }) l (record { birth = birth; pairs = s }) (map (written birth) kids) line
    ∙ ap (λ (u : List WSym). known u l (values_now line birth s) (means line (map (written birth) kids))) (string-new line birth t h)
    ∙ ap (λ (ps : Pairs). known t l ps (means line (map (written birth) kids))) (values-new line birth s h)
    ∙ ap (known t l s) (means-written birth line kids e))

young-kids : (birth : ℕ) (kids : List Plain) → Each (λ x. youngest (written birth x) ≤ birth) kids → greatest (map youngest (map (written birth) kids)) ≤ birth
young-kids birth [] h = omega arith
young-kids birth (x ∷ xs) h = let one = h.0 in omega (arith, young-kids birth xs h.1)

pub young-written : (birth : ℕ) (x : Plain) → youngest (written birth x) ≤ birth
young-written birth = by_trees (λ x. youngest (written birth x) ≤ birth)
    (λ t. omega (arith, ap youngest (written-unknown birth t), youngest-unknown (record { birth = birth; string = t })))
    (λ t l s kids e. omega (
      arith,
      ap youngest (written-known birth t l s kids),
      youngest-known (record { birth = birth; string = t }) l (record { birth = birth; pairs = s }) (map (written birth) kids),
      young-kids birth kids e,
    ))

pub count-written : (birth : ℕ) (x : Plain) → count (written birth x) ≡ size_of x
count-written birth x = sym (size_of-mean [] (written birth x)) ∙ ap size_of (mean-written birth [] (omega arith) x)

pub tall-written : (birth : ℕ) (x : Plain) → tall (written birth x) ≡ height_of x
tall-written birth x = sym (height_of-mean [] (written birth x)) ∙ ap height_of (mean-written birth [] (omega arith) x)

-- children that are written out, one after the other

pub written-more : (birth : ℕ) (line : Line) (items : List Shared) (i : ℕ) (kid : Shared) (x y : TimedTree) (front now : List TimedTree) → i < length items → kid ≡ get_or items i kid → x ≡ kid.value
    → y ≡ written birth (mean x line) → front ≡ map (written birth) (take i (means line (values items))) → now ≡ front ++ y ∷ [] → now ≡ map (written birth) (take (i + 1) (means line (values items)))
written-more birth line items i kid x y front now h is same e so_far more =
    let ms : List Plain = means line (values items) in
    more
    ∙ ap (λ (ys : List TimedTree). ys ++ y ∷ []) so_far
    ∙ ap (λ (z : TimedTree). map (written birth) (take i ms) ++ z ∷ []) (e ∙ ap (written birth) (mean-at line items i kid x h is same))
    ∙ sym (map-append (written birth) (take i ms) (get_or ms i (mean x line) ∷ []))
    ∙ ap (map (written birth)) (sym (take_more ms i (mean x line) (omega (arith, h, many-means line items))))

pub counts-more : (line : Line) (items : List Shared) (i : ℕ) (kid : Shared) (x : TimedTree) → i < length items → kid ≡ get_or items i kid → x ≡ kid.value
    → sum_by size_of (take (i + 1) (means line (values items))) ≡ sum_by size_of (take i (means line (values items))) + count x
counts-more line items i kid x h is same =
    let ms : List Plain = means line (values items) in
    omega (
      arith,
      sum_by_more size_of ms i (mean x line) (omega (arith, h, many-means line items)),
      ap size_of (mean-at line items i kid x h is same),
      size_of-mean line x,
    )

-- all of them
pub counts-all : (t : Text) (l : ℕ) (s : Values) (line : Line) (kids items : List Shared) (x : TimedTree) (i : ℕ) → known_timed t l s (values kids) ≡ x → items ≡ kids → length items ≤ i
    → sum_by size_of (take i (means line (values items))) + 1 ≡ count x
counts-all t l s line kids items x i is same h = omega (
  arith,
  ap (sum_by size_of) (take_all i (means line (values items)) (omega (arith, h, many-means line items))),
  ap (λ (ks : List Shared). sum_by size_of (means line (values ks))) same,
  sizes-means line (values kids),
  count-known t l s (values kids),
  ap count is,
)

pub kid-fits : (t : Text) (l : ℕ) (s : Values) (line : Line) (kids items : List Shared) (x kid-node : TimedTree) (i : ℕ) (kid : Shared) → known_timed t l s (values kids) ≡ x → items ≡ kids
    → i < length items → kid ≡ get_or items i kid → kid-node ≡ kid.value → sum_by size_of (take i (means line (values items))) + count kid-node + 1 ≤ count x
kid-fits t l s line kids items x kid-node i kid is same h at e = omega (
  arith,
  kid-below (text_now line t) l (sigma_now line s) (means line (values kids)) (means line (values items)) (mean x line) (mean kid-node line) i
      (is-known t l s (values kids) x is line) (ap (λ (ks : List Shared). means line (values ks)) same) (omega (arith, h, many-means line items)) (mean-at line items i kid kid-node h at e),
  size_of-mean line x,
  size_of-mean line kid-node,
)

counts-written : (birth : ℕ) (ms : List Plain) → sum_by count (map (written birth) ms) ≡ sum_by size_of ms
counts-written birth [] = refl
counts-written birth (x ∷ xs) = sum_by-cons count (written birth x) (map (written birth) xs) ∙ omega (arith, count-written birth x, counts-written birth xs, sum_by-cons size_of x xs)

pub counts-made : (birth : ℕ) (ms : List Plain) (nodes : List Shared) → values nodes ≡ map (written birth) ms → counts nodes ≡ sum_by size_of ms
counts-made birth ms nodes e = sym (counts-values nodes) ∙ ap (sum_by count) e ∙ counts-written birth ms

pub known-written : (birth : ℕ) (line : Line) (t : Text) (l : ℕ) (s : Values) (kids items nodes : List Shared) (x y : TimedTree) (i : ℕ) → known_timed t l s (values kids) ≡ x → items ≡ kids → length items ≤ i
    → values nodes ≡ map (written birth) (take i (means line (values items)))
    → y ≡ known_timed (record { birth = birth; string = text_now line t }) l (record { birth = birth; pairs = sigma_now line s }) (values nodes) → y ≡ written birth (mean x line)
known-written birth line t l s kids items nodes x y i is same h made e =
    let all : values nodes ≡ map (written birth) (means line (values kids)) = made
    ∙ ap (map (written birth)) (take_all i (means line (values items)) (omega (arith, h, many-means line items)))
    ∙ ap (λ (ks : List Shared). map (written birth) (means line (values ks))) same in
    e ∙ ap (known_timed (record { birth = birth; string = text_now line t }) l (record { birth = birth; pairs = sigma_now line s })) all
    ∙ sym (written-known birth (text_now line t) l (sigma_now line s) (means line (values kids)))
    ∙ ap (written birth) (is-known t l s (values kids) x is line)

pub unknown-written : (birth : ℕ) (line : Line) (t : Text) (x y : TimedTree) → unknown_timed t ≡ x → y ≡ unknown_timed (record { birth = birth; string = text_now line t }) → y ≡ written birth (mean x line)
unknown-written birth line t x y is e = e ∙ sym (written-unknown birth (text_now line t)) ∙ ap (written birth) (is-unknown t x is line)
