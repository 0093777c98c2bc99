-- A label tree, and the plain tree that its labels fold to.
use Rattle.std.proofs.Common.{zero, suc, ◌≡◌, ℕ, ◌+◌, ◌-◌, ◌≤◌, max, Bool, true, false, nat_lt, nat_le, if◌then◌else◌, List, [], ◌∷◌, ◌++◌, map, length, take, drop, Option, None, refl, sym, ◌∙◌, ap, arith, append_assoc, length-append}
use Rattle.std.proofs.lemmas.Bool.Decides.{nat_tests}
use Rattle.std.proofs.lemmas.List.{append-nil, length-map, map-append, take_at, drop_at}
use Rattle.mm_scope.specs.Contents.{stated_at}
use Rattle.mm_stated.specs.Stated.{is_hypothesis}
use Rattle.mm_subst.specs.Statements.{statement_of}
use Rattle.mm_plain.specs.declared.plain.Plain.{Plain}
use Rattle.mm_plain.specs.LabelTrees.{only_of, takes, tree_of, tree_over, with_label, with_labels}
use Rattle.mm_plain.specs.Premises.{premises_of}
use Rattle.mm_plain.specs.Shape.{greatest, height_of}
use Rattle.mm_plain.specs.Valid.{most_levels}
use Rattle.mm_plain.proofs.Equations.{height_of-known, height_of-unknown}
use Rattle.mm_proof.specs.Forests.{arity_of}
use Rattle.mm_proof.specs.Shapes.{height_in, steps_in}
use Rattle.mm_proof.specs.Trees.{AreWhole, Tree, Trees, list_of, more, none, postorder, trees_of}
use Rattle.mm_tree.specs.Labelled.{FoldLow}
use Rattle.mm_edit.specs.Labelling.{label_for, labels_for}
use Rattle.mm_edit.specs.Loading.{has_many_levels}

-- the plain trees of label trees
plains : Trees → List Plain
plains none = []
plains (more l cs rest) = tree_over (label_for l) (plains cs) ∷ plains rest

as_many : (ts : Trees) → length (plains ts) ≡ length (list_of ts)
unfolding plains
as_many none = refl
as_many (more l cs rest) = ap suc (as_many rest)

takes_by : (bytes ms : List ℕ) (b : Bool) → length (if b then [] else map (statement_of bytes) ms) ≡ (if b then 0 else length ms)
takes_by bytes ms true = refl
takes_by bytes ms false = length-map ms (statement_of bytes)

takes-arity : (bytes : List ℕ) (l : ℕ) → takes bytes (label_for l) ≡ arity_of bytes l
unfolding premises_of arity_of
takes-arity bytes zero = refl
takes-arity bytes (suc n) = takes_by bytes (stated_at bytes n).mandatory (is_hypothesis (stated_at bytes n).kind)

enough : (m n : ℕ) → m ≤ n → nat_le m n ≡ true
enough m n h = grind (arith, nat_tests)

one_more : (bytes : List ℕ) (o : Option ℕ) (xs kids : List Plain) (os : List (Option ℕ)) → length kids ≡ takes bytes o → with_labels bytes (xs ++ kids) (o ∷ os) ≡ with_labels bytes (xs ++ tree_over o kids ∷ []) os
one_more bytes o xs kids os h =
    let left : length (xs ++ kids) - takes bytes o ≡ length xs = omega (arith, length-append xs kids, h) in
    let room : takes bytes o ≤ length (xs ++ kids) = omega (arith, length-append xs kids, h) in
    ap (λ (b : Bool). if b then with_labels bytes (with_label bytes (xs ++ kids) o) os else None) (enough (takes bytes o) (length (xs ++ kids)) room)
    ∙ ap (λ (k : ℕ). with_labels bytes (take k (xs ++ kids) ++ tree_over o (drop k (xs ++ kids)) ∷ []) os) left
    ∙ ap (λ (ys : List Plain). with_labels bytes (ys ++ tree_over o (drop (length xs) (xs ++ kids)) ∷ []) os) (take_at xs kids (length xs) refl)
    ∙ ap (λ (ys : List Plain). with_labels bytes (xs ++ tree_over o ys ∷ []) os) (drop_at xs kids (length xs) refl)

folds : (bytes : List ℕ) (ts : Trees) (xs : List Plain) (os : List (Option ℕ)) → AreWhole (arity_of bytes) ts → with_labels bytes xs (map label_for (postorder ts) ++ os) ≡ with_labels bytes (xs ++ plains ts) os
unfolding plains
folds bytes none xs os w = ap (λ (ys : List Plain). with_labels bytes ys os) (sym (append-nil xs))
folds bytes (more l cs rest) xs os w =
    let back : List (Option ℕ) = map label_for (postorder rest) ++ os in
    let kids : List Plain = plains cs in
    let x : Plain = tree_over (label_for l) kids in
    ap (λ (ls : List (Option ℕ)). with_labels bytes xs (ls ++ os)) (map-append label_for (postorder cs) (l ∷ postorder rest))
    ∙ ap (with_labels bytes xs) (append_assoc (map label_for (postorder cs)) (label_for l ∷ map label_for (postorder rest)) os)
    ∙ folds bytes cs xs (label_for l ∷ back) w.1.0
    ∙ one_more bytes (label_for l) xs kids back (as_many cs ∙ w.0 ∙ sym (takes-arity bytes l))
    ∙ folds bytes rest (xs ++ x ∷ []) os w.1.1
    ∙ ap (λ (ys : List Plain). with_labels bytes ys os) (append_assoc xs (x ∷ []) (plains rest))

arity-none : (bytes : List ℕ) → arity_of bytes 0 ≡ 0
unfolding arity_of
arity-none bytes = refl

leaf : (bytes : List ℕ) (cs : Trees) → length (list_of cs) ≡ arity_of bytes 0 → height_in cs ≡ 0
leaf bytes none h = refl
leaf bytes (more l cs rest) h = absurd (omega (arith, h, arity-none bytes))

height-over : (bytes : List ℕ) (l : ℕ) (cs : Trees) (kids : List Plain) → length (list_of cs) ≡ arity_of bytes l → greatest (map height_of kids) ≡ height_in cs → height_of (tree_over (label_for l) kids) ≡ 1 + height_in cs
height-over bytes zero cs kids w h = omega (arith, height_of-unknown [], leaf bytes cs w)
height-over bytes (suc n) cs kids w h = omega (arith, height_of-known [] n [] kids, h)

heights : (bytes : List ℕ) (ts : Trees) → AreWhole (arity_of bytes) ts → greatest (map height_of (plains ts)) ≡ height_in ts
unfolding plains
heights bytes none w = refl
heights bytes (more l cs rest) w =
    ap (λ (n : ℕ). max n (greatest (map height_of (plains rest)))) (height-over bytes l cs (plains cs) w.0 (heights bytes cs w.1.0))
    ∙ ap (max (1 + height_in cs)) (heights bytes rest w.1.1)

low-enough : (m n : ℕ) → nat_lt m n ≡ false → n ≤ m
low-enough m n h = grind arith

pub fold_low : (bytes : List ℕ) (t : Tree) → AreWhole (arity_of bytes) (trees_of (t ∷ [])) → has_many_levels t ≡ false → FoldLow bytes (labels_for t)
unfolding plains tree_of
fold_low bytes t w h =
    let x : Plain = tree_over (label_for t.label) (plains t.children) in
    let high = heights bytes (trees_of (t ∷ [])) w in (
      x,
      ap (λ (ls : List (Option ℕ)). only_of (with_labels bytes [] ls)) (sym (append-nil (labels_for t))) ∙ ap only_of (folds bytes (trees_of (t ∷ [])) [] [] w),
      omega (arith, high, low-enough most_levels (1 + height_in t.children) h),
    )

pub length-postorder : (ts : Trees) → length (postorder ts) ≡ steps_in ts
length-postorder none = refl
length-postorder (more l cs rest) = omega (arith, length-append (postorder cs) (l ∷ postorder rest), length-postorder cs, length-postorder rest)

pub length-labels : (t : Tree) → length (labels_for t) ≡ 1 + steps_in t.children
length-labels t = omega (arith, length-map (postorder (trees_of (t ∷ []))) label_for, length-postorder (trees_of (t ∷ [])))
