-- The steps in the children behind the first ones.
use Rattle.std.proofs.Common.{zero, suc, ◌≡◌, ℕ, ◌+◌, ◌≤◌, ◌<◌, List, [], ◌∷◌, map, take, drop, length, get_or, refl, sym, ◌∙◌, ap, arith}
use Rattle.std.specs.List.{sum_by}
use Rattle.std.proofs.lemmas.List.{at_drop_more, at_drop_all, take-append-drop}
use Rattle.std.proofs.lemmas.List.Sums.{sum_by-cons, sum_by-append}
use Rattle.mm_plain.specs.declared.plain.Plain.{Plain}
use Rattle.mm_plain.specs.Children.{children_of}
use Rattle.mm_plain.specs.Shape.{size_of, step_at}
use Rattle.mm_plain.proofs.Equations.{by_trees, size_of-known}
use Rattle.mm_plain.proofs.Nested.{around}
use Rattle.mm_plain.proofs.Children.{children_of-unknown, children_of-known}
use Rattle.mm_tree.specs.Lines.{Line}
use Rattle.mm_tree.specs.Meanings.{mean, means, text_now, sigma_now, unknown_timed, known_timed, count}
use Rattle.mm_tree.specs.View.{Shared, values, counts}
use Rattle.mm_tree.specs.declared.timed.Text.{Text}
use Rattle.mm_tree.specs.declared.timed.Values.{Values}
use Rattle.mm_tree.specs.declared.timed.TimedTree.{TimedTree}
use Rattle.mm_tree.proofs.Kids.{is-known, is-unknown}
use Rattle.mm_tree.proofs.Shapes.{sizes-means, counts-values}

pub later-le : (kids : List Shared) (n : ℕ) → counts (drop n kids) ≤ counts kids
later-le kids n = omega (arith, sum_by-append (λ (r : Shared). count r.value) (take n kids) (drop n kids), ap counts (take-append-drop n kids))

pub later-more : (kids : List Shared) (i : ℕ) (kid : Shared) → i < length kids → kid ≡ get_or kids i kid → counts (drop i kids) ≡ count kid.value + counts (drop (i + 1) kids)
later-more kids i kid h is =
    at_drop_more counts kids i kid h ∙ sum_by-cons (λ (r : Shared). count r.value) (get_or kids i kid) (drop (i + 1) kids)
    ∙ ap (λ (r : Shared). count r.value + counts (drop (i + 1) kids)) (sym is)

pub later-none : (kids : List Shared) (i : ℕ) → length kids ≤ i → counts (drop i kids) ≡ 0
later-none kids i h = at_drop_all counts kids i h

abbrev no_trees : List Plain
no_trees = []

drop-nil : (n : ℕ) → drop n no_trees ≡ no_trees
drop-nil zero = refl
drop-nil (suc n) = refl

drop-means : (line : Line) (n : ℕ) (kids : List Shared) → drop n (means line (values kids)) ≡ means line (values (drop n kids))
drop-means line zero kids = refl
drop-means line (suc n) [] = refl
drop-means line (suc n) (x ∷ xs) = drop-means line n xs

pub behind-known : (t : Text) (l : ℕ) (s : Values) (kids : List Shared) (x : TimedTree) (first n : ℕ) → known_timed t l s (values kids) ≡ x → n ≡ counts (drop first kids)
    → (line : Line) → n ≡ sum_by size_of (drop first (children_of (mean x line)))
behind-known t l s kids x first n is e line =
    e ∙ sym (ap (λ (ks : List Plain). sum_by size_of (drop first ks)) (ap children_of (sym (is-known t l s (values kids) x is line)) ∙ children_of-known (text_now line t) l (sigma_now line s) (means line (values kids)))
    ∙ ap (sum_by size_of) (drop-means line first kids)
    ∙ sizes-means line (values (drop first kids)) ∙ counts-values (drop first kids))

pub behind-unknown : (t : Text) (x : TimedTree) (first : ℕ) → unknown_timed t ≡ x → (line : Line) → 0 ≡ sum_by size_of (drop first (children_of (mean x line)))
behind-unknown t x first is line =
    sym (ap (λ (ks : List Plain). sum_by size_of (drop first ks)) (ap children_of (sym (is-unknown t x is line)) ∙ children_of-unknown (text_now line t)) ∙ ap (sum_by size_of) (drop-nil first))

-- they and the step itself are no more than its number
pub behind-le : (x : Plain) (k j : ℕ) → 1 ≤ k → k ≤ size_of x → (y : Plain) → step_at x k ≡ y → sum_by size_of (drop j (children_of y)) + 1 ≤ k
behind-le x k j h g = by_trees (λ y. step_at x k ≡ y → sum_by size_of (drop j (children_of y)) + 1 ≤ k)
    (λ t is. omega (arith, ap (λ (ks : List Plain). sum_by size_of (drop j ks)) (children_of-unknown t), ap (sum_by size_of) (drop-nil j)))
    (λ t l s kids ih is.
    let number = (around x k h g).number in
    omega (
      arith,
      ap (λ (ks : List Plain). sum_by size_of (drop j ks)) (children_of-known t l s kids),
      sum_by-append size_of (take j kids) (drop j kids),
      ap (sum_by size_of) (take-append-drop j kids),
      ap size_of is,
      size_of-known t l s kids,
    ))
