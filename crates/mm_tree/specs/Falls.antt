-- A child has fewer steps than its parent.
use Rattle.std.specs.Prelude.{◌≡◌, ℕ, ◌+◌, ◌≤◌, List, [], ◌∷◌}
use Rattle.std.proofs.Common.{◌∙◌, ap, arith}
use Rattle.std.specs.List.{sum_by}
use Rattle.std.proofs.lemmas.List.Sums.{sum_by-cons}
use denote.Param.Weighed.{most}
use Rattle.mm_plain.specs.Shape.{size_of}
use Rattle.mm_plain.proofs.Equations.{size_of-known, size_of-unknown, sum_by-map}
use Rattle.mm_tree.specs.declared.timed.Text.{Text}
use Rattle.mm_tree.specs.declared.timed.Values.{Values}
use Rattle.mm_tree.specs.declared.timed.TimedTree.{TimedTree}
use Rattle.mm_tree.specs.declared.node.Node.TheDeep.{deep-Step}
use Rattle.mm_tree.specs.declared.node.Step.{Step}
use Rattle.mm_tree.specs.declared.node.Step.TheVariants.{Unknown, Known}
use Rattle.mm_tree.specs.Meanings.{count, mean, means, mean-known, mean-unknown, unknown_timed, known_timed, text_now, sigma_now}
use Rattle.mm_tree.specs.View.{Shared, values, counts, timed_of}

pub count-unknown : (t : Text) → count (unknown_timed t) ≡ 1
unfolding count
count-unknown t = ap size_of (mean-unknown t []) ∙ size_of-unknown (text_now [] t)

pub count-known : (t : Text) (l : ℕ) (s : Values) (kids : List TimedTree) → count (known_timed t l s kids) ≡ sum_by count kids + 1
unfolding count
count-known t l s kids = ap size_of (mean-known t l s kids [])
    ∙ size_of-known (text_now [] t) l (sigma_now [] s) (means [] kids)
    ∙ ap (λ (n : ℕ). n + 1) (sum_by-map size_of (λ (x : TimedTree). mean x []) kids)

pub count-shared : (t : Text) (l : ℕ) (s : Values) (kids : List Shared) → count (known_timed t l s (values kids)) ≡ counts kids + 1
count-shared t l s kids = count-known t l s (values kids) ∙ ap (λ (n : ℕ). n + 1) (sum_by-map count (λ (r : Shared). r.value) kids)

most_le-counts : (kids : List Shared) → most (λ (r : Shared). count r.value + 1) kids ≤ counts kids + 1
most_le-counts [] = omega arith
most_le-counts (k ∷ ks) = omega (arith, most_le-counts ks, sum_by-cons (λ (r : Shared). count r.value) k ks)

pub deep_le-count : (s : Step) → deep-Step s ≤ count (timed_of s)
deep_le-count (Unknown t) = omega arith
deep_le-count (Known t l s kids) = omega (arith, count-shared t.value l s.value kids.items, most_le-counts kids.items)
