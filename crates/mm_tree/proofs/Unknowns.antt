-- The unknown steps of a tree, by those of the children.
use Rattle.std.proofs.Common.{◌≡◌, ℕ, ◌+◌, ◌-◌, ◌<◌, cond, List, [], ◌∷◌, length, take, get_or, is_none, Option, None, Some, refl, sym, ◌∙◌, ap, arith}
use Rattle.std.specs.List.{flat_map, sum_by, last_or}
use Rattle.std.proofs.lemmas.List.Sums.{sum_by-append, sum_by-cons, sum_by_more}
use Rattle.mm_subst.specs.declared.symbol.WSym.{WSym}
use Rattle.mm_subst.specs.Substitutions.{Pairs}
use Rattle.mm_plain.specs.declared.plain.Plain.{Plain}
use Rattle.mm_plain.specs.Shape.{known, size_of}
use Rattle.mm_plain.specs.Numbers.{labels_in, numbers_from, unknowns_among}
use Rattle.mm_plain.proofs.Walks.{labels_in-known, last-more, flat_map-more}

pub unknowns-known : (t : List WSym) (l : ℕ) (s : Pairs) (kids : List Plain) → unknowns_among (labels_in (known t l s kids)) ≡ unknowns_among (flat_map labels_in kids)
unknowns-known t l s kids =
    ap unknowns_among (labels_in-known t l s kids) ∙ sum_by-append (λ x. cond (is_none x) 1 0) (flat_map labels_in kids) (Some l ∷ []) ∙ omega arith

pub unknowns-more : (kids : List Plain) (i : ℕ) (d : Plain) → i < length kids
    → unknowns_among (flat_map labels_in (take (i + 1) kids)) ≡ unknowns_among (flat_map labels_in (take i kids)) + unknowns_among (labels_in (get_or kids i d))
unknowns-more kids i d h =
    ap unknowns_among (flat_map-more labels_in kids i d h) ∙ sum_by-append (λ x. cond (is_none x) 1 0) (flat_map labels_in (take i kids)) (labels_in (get_or kids i d))

no-numbers : (n : ℕ) (labels : List (Option ℕ)) → unknowns_among labels ≡ 0 → numbers_from is_none n labels ≡ []
no-numbers n [] h = refl
no-numbers n (None ∷ xs) h = absurd (omega (arith, h, sum_by-cons (λ (x : Option ℕ). cond (is_none x) 1 0) None xs))
no-numbers n (Some l ∷ xs) h = no-numbers (n + 1) xs (omega (arith, h, sum_by-cons (λ (x : Option ℕ). cond (is_none x) 1 0) (Some l) xs))

some-numbers : (n : ℕ) (labels : List (Option ℕ)) (found : Option ℕ) → 0 < unknowns_among labels → last_or found (numbers_from is_none n labels) ≡ last_or None (numbers_from is_none n labels)
some-numbers n [] found h = absurd (omega (arith, h))
some-numbers n (None ∷ xs) found h = refl
some-numbers n (Some l ∷ xs) found h = some-numbers (n + 1) xs found (omega (arith, h, sum_by-cons (λ (x : Option ℕ). cond (is_none x) 1 0) (Some l) xs))

-- the last unknown step among the first children
abbrev pub last_among : ℕ → List Plain → Option ℕ
last_among n kids = last_or None (numbers_from is_none n (flat_map labels_in kids))

-- it is in a child that has one, and else before this child
pub last-here : (items : List Plain) (i n m : ℕ) (kid : Plain) → i < length items → kid ≡ get_or items i kid → m ≡ n + sum_by size_of (take i items)
    → 0 < unknowns_among (labels_in kid) → last_or None (numbers_from is_none m (labels_in kid)) ≡ last_among n (take (i + 1) items)
last-here items i n m kid h at number some =
    sym (some-numbers m (labels_in kid) (last_among n (take i items)) some) ∙ last-more items i n m kid None h at number

pub last-before : (items : List Plain) (i n m : ℕ) (kid : Plain) → i < length items → kid ≡ get_or items i kid → m ≡ n + sum_by size_of (take i items)
    → unknowns_among (labels_in kid) ≡ 0 → last_among n (take i items) ≡ last_among n (take (i + 1) items)
last-before items i n m kid h at number none =
    ap (last_or (last_among n (take i items))) (sym (no-numbers m (labels_in kid) none)) ∙ last-more items i n m kid None h at number

-- the number of the first step below a child, by that of the first step behind it
pub number-before : (items : List Plain) (i n m size : ℕ) (kid : Plain) → i < length items → kid ≡ get_or items i kid → m ≡ n + sum_by size_of (take (i + 1) items) → size ≡ size_of kid
    → m - size ≡ n + sum_by size_of (take i items)
number-before items i n m size kid h at number is = omega (arith, number, is, ap size_of at, sum_by_more size_of items i kid h)
