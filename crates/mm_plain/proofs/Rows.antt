-- A tree is made of its rows, and the rows of a tree with fresh work variables follow from its labels.
use Rattle.std.proofs.Common.{suc, ◌≡◌, ℕ, ◌+◌, ◌-◌, ◌≤◌, List, [], ◌∷◌, ◌++◌, map, length, take, drop, get_or, reverse, Option, None, Some, refl, sym, ◌∙◌, ap, subst, arith, append_assoc, length-append}
use Rattle.std.specs.List.{flat_map, sum_by, All}
use Rattle.std.proofs.Math.Seq.{drop-append_seam, take-append_seam}
use Rattle.std.proofs.lemmas.List.{append-nil, map-append, reverse-append, length-map, take_all}
use Rattle.std.proofs.lemmas.List.Concat.{flat_map-cons}
use Rattle.std.proofs.lemmas.List.Sums.{sum_by-cons}
use Rattle.mm_subst.specs.declared.symbol.WSym.{WSym}
use Rattle.mm_subst.specs.Substitutions.{Pairs, applied}
use Rattle.mm_plain.specs.declared.plain.Plain.{Plain}
use Rattle.mm_plain.specs.Premises.{premises_of, variables_for}
use Rattle.mm_plain.specs.Shape.{Each, Proof, known, unknown, steps_of, step_at, size_of}
use Rattle.mm_plain.specs.Sources.{label_of, sigma_of}
use Rattle.mm_plain.specs.Numbers.{labels_in}
use Rattle.mm_plain.specs.Drawing.{draws_of, fresh_for, with_fresh, with_fresh_kids, AreFitting}
use Rattle.mm_plain.specs.LabelTrees.{fresh_proof_of, MayStand}
use Rattle.mm_plain.specs.Rows.{Row, row_of, rows_of, with_row, with_rows, fresh_rows}
use Rattle.mm_plain.proofs.Equations.{by_trees, steps_of-unknown, steps_of-known, target_of-unknown, target_of-known}
use Rattle.mm_plain.proofs.Read.{label_of-unknown, label_of-known, sigma_of-unknown, sigma_of-known}
use Rattle.mm_plain.proofs.Walks.{labels_in-unknown, labels_in-known}
use Rattle.mm_plain.proofs.Drawing.{own_from, own_values, own_targets, with_fresh-unknown, with_fresh-known, draws_of-unknown, draws_of-known, fitting-known, fitting-kids, sound-fitting}
use Rattle.mm_plain.proofs.Grafts.{sound-part}
use Rattle.mm_plain.specs.Valid.{setting_of, IsValid}
use Rattle.mm_plain.proofs.LabelTrees.{known_fits, unknown_fits, begins, labels_in-tree_of, fitting-tree_of}

-- the rows of a step

row_of-unknown : (t : List WSym) → row_of (unknown t) ≡ record { target = t; label = None; sigma = [] }
row_of-unknown t =
    ap (λ u. record { target = u; label = label_of (unknown t); sigma = sigma_of (unknown t) }) (target_of-unknown t)
    ∙ ap (λ o. record { target = t; label = o; sigma = sigma_of (unknown t) }) (label_of-unknown t)
    ∙ ap (λ s. record { target = t; label = None; sigma = s }) (sigma_of-unknown t)

row_of-known : (t : List WSym) (l : ℕ) (s : Pairs) (kids : List Plain) → row_of (known t l s kids) ≡ record { target = t; label = Some l; sigma = s }
row_of-known t l s kids =
    let x : Plain = known t l s kids in
    ap (λ u. record { target = u; label = label_of x; sigma = sigma_of x }) (target_of-known t l s kids)
    ∙ ap (λ o. record { target = t; label = o; sigma = sigma_of x }) (label_of-known t l s kids)
    ∙ ap (λ r. record { target = t; label = Some l; sigma = r }) (sigma_of-known t l s kids)

pub rows_of-unknown : (t : List WSym) → rows_of (unknown t) ≡ record { target = t; label = None; sigma = [] } ∷ []
rows_of-unknown t = ap (map row_of) (steps_of-unknown t) ∙ ap (λ r. r ∷ []) (row_of-unknown t)

map-steps : (kids : List Plain) → map row_of (flat_map steps_of kids) ≡ flat_map rows_of kids
map-steps [] = refl
map-steps (x ∷ xs) = map-append row_of (steps_of x) (flat_map steps_of xs) ∙ ap (λ n. rows_of x ++ n) (map-steps xs)

pub rows_of-known : (t : List WSym) (l : ℕ) (s : Pairs) (kids : List Plain) → rows_of (known t l s kids) ≡ flat_map rows_of kids ++ record { target = t; label = Some l; sigma = s } ∷ []
rows_of-known t l s kids =
    ap (map row_of) (steps_of-known t l s kids)
    ∙ map-append row_of (flat_map steps_of kids) (known t l s kids ∷ [])
    ∙ ap (λ rs. rs ++ row_of (known t l s kids) ∷ []) (map-steps kids)
    ∙ ap (λ r. flat_map rows_of kids ++ r ∷ []) (row_of-known t l s kids)

-- a tree is made of its rows

abbrev Makes : List ℕ → ℕ → Plain → Type 0
Makes bytes at x = AreFitting bytes at x → (xs : List Plain) (rs : List Row) → with_rows bytes xs (rows_of x ++ rs) ≡ with_rows bytes (xs ++ x ∷ []) rs

kids_made : (bytes : List ℕ) (at : ℕ) (kids : List Plain) → Each (Makes bytes at) kids → Each (AreFitting bytes at) kids → (xs : List Plain) (rs : List Row)
    → with_rows bytes xs (flat_map rows_of kids ++ rs) ≡ with_rows bytes (xs ++ kids) rs
kids_made bytes at [] e f xs rs = ap (λ ys. with_rows bytes ys rs) (sym (append-nil xs))
kids_made bytes at (k ∷ ks) e f xs rs =
    ap (λ ls. with_rows bytes xs (ls ++ rs)) (flat_map-cons rows_of k ks)
    ∙ ap (with_rows bytes xs) (append_assoc (rows_of k) (flat_map rows_of ks) rs)
    ∙ e.0 f.0 xs (flat_map rows_of ks ++ rs)
    ∙ kids_made bytes at ks e.1 f.1 (xs ++ k ∷ []) rs
    ∙ ap (λ ys. with_rows bytes ys rs) (append_assoc xs (k ∷ []) ks)

known_made : (bytes : List ℕ) (t : List WSym) (id : ℕ) (s : Pairs) (xs kids : List Plain) → length kids ≡ length (premises_of bytes id)
    → with_row bytes (xs ++ kids) (record { target = t; label = Some id; sigma = s }) ≡ xs ++ known t id s kids ∷ []
known_made bytes t id s xs kids h =
    let left : length (xs ++ kids) - length (premises_of bytes id) ≡ length xs = omega (arith, length-append xs kids, h) in
    ap (λ k. take k (xs ++ kids) ++ known t id s (drop k (xs ++ kids)) ∷ []) left
    ∙ ap (λ ys. ys ++ known t id s (drop (length xs) (xs ++ kids)) ∷ []) (take-append_seam xs kids)
    ∙ ap (λ ys. xs ++ known t id s ys ∷ []) (drop-append_seam xs kids)

pub rows_make : (bytes : List ℕ) (at : ℕ) (x : Plain) → AreFitting bytes at x → (xs : List Plain) (rs : List Row) → with_rows bytes xs (rows_of x ++ rs) ≡ with_rows bytes (xs ++ x ∷ []) rs
rows_make bytes at = by_trees (Makes bytes at)
    (λ t f xs rs.
    ap (λ ls. with_rows bytes xs (ls ++ rs)) (rows_of-unknown t)
    ∙ ap (λ ys. with_rows bytes (ys ++ unknown t ∷ []) rs) (take_all (length xs - 0) xs (omega arith)))
    (λ t l s kids e f xs rs.
    let parts = fitting-kids bytes at t l s kids f in
    let own = fitting-known bytes at t l s kids parts.1 in
    let r : Row = record { target = t; label = Some l; sigma = s } in
    ap (λ ls. with_rows bytes xs (ls ++ rs)) (rows_of-known t l s kids)
    ∙ ap (with_rows bytes xs) (append_assoc (flat_map rows_of kids) (r ∷ []) rs)
    ∙ kids_made bytes at kids e parts.0 xs (r ∷ rs)
    ∙ ap (λ ys. with_rows bytes ys rs) (known_made bytes t l s xs kids own.1))

pub rows_make_all : (bytes : List ℕ) (at : ℕ) (x : Plain) → AreFitting bytes at x → with_rows bytes [] (rows_of x) ≡ x ∷ []
rows_make_all bytes at x f = ap (with_rows bytes []) (sym (append-nil (rows_of x))) ∙ rows_make bytes at x f [] []

-- a tree with fresh work variables fits

length_fresh : (bytes : List ℕ) (kids : List Plain) (n : ℕ) (ts : List (List WSym)) → length (with_fresh_kids bytes kids n ts) ≡ length kids
length_fresh bytes [] n ts = refl
length_fresh bytes (x ∷ xs) n ts = ap suc (length_fresh bytes xs (n + draws_of bytes x) (drop 1 ts))

abbrev StaysFitting : List ℕ → ℕ → Plain → Type 0
StaysFitting bytes at x = AreFitting bytes at x → (n : ℕ) (t : List WSym) → AreFitting bytes at (with_fresh bytes x n t)

kids_fitting : (bytes : List ℕ) (at : ℕ) (kids : List Plain) → Each (StaysFitting bytes at) kids → Each (AreFitting bytes at) kids → (n : ℕ) (ts : List (List WSym))
    → Each (AreFitting bytes at) (with_fresh_kids bytes kids n ts)
kids_fitting bytes at [] e f n ts = tt
kids_fitting bytes at (x ∷ xs) e f n ts = (e.0 f.0 n (get_or ts 0 []), kids_fitting bytes at xs e.1 f.1 (n + draws_of bytes x) (drop 1 ts))

pub fitting-with_fresh : (bytes : List ℕ) (at : ℕ) (x : Plain) → AreFitting bytes at x → (n : ℕ) (t : List WSym) → AreFitting bytes at (with_fresh bytes x n t)
fitting-with_fresh bytes at = by_trees (StaysFitting bytes at)
    (λ u f n t. subst (AreFitting bytes at) (sym (with_fresh-unknown bytes u n t)) (unknown_fits bytes at t))
    (λ u l s kids e f n t.
    let parts = fitting-kids bytes at u l s kids f in
    let own = fitting-known bytes at u l s kids parts.1 in
    let ys : List Plain = with_fresh_kids bytes kids n (own_targets bytes l kids n) in
    subst (AreFitting bytes at) (sym (with_fresh-known bytes u l s kids n t))
    (known_fits bytes at t l (own_values bytes l kids n) ys (kids_fitting bytes at kids e parts.0 n (own_targets bytes l kids n)) own.0 (length_fresh bytes kids n (own_targets bytes l kids n) ∙ own.1)))

-- its rows, from the last to the first

abbrev RowsBack : List ℕ → ℕ → Plain → Type 0
RowsBack bytes at x = AreFitting bytes at x → (n : ℕ) (t : List WSym) (ts : List (List WSym)) (os : List (Option ℕ))
    → fresh_rows bytes (n + draws_of bytes x) (t ∷ ts) (reverse (labels_in x) ++ os) ≡ reverse (rows_of (with_fresh bytes x n t)) ++ fresh_rows bytes n ts os

turned : {A : Type 0} (xs ys zs : List A) → reverse (xs ++ ys) ++ zs ≡ reverse ys ++ (reverse xs ++ zs)
turned xs ys zs = ap (λ us. us ++ zs) (reverse-append xs ys) ∙ append_assoc (reverse ys) (reverse xs) zs

kids_back : (bytes : List ℕ) (at : ℕ) (kids : List Plain) → Each (RowsBack bytes at) kids → Each (AreFitting bytes at) kids → (n : ℕ) (us ts : List (List WSym)) (os : List (Option ℕ)) → length us ≡ length kids
    → fresh_rows bytes (n + sum_by (draws_of bytes) kids) (reverse us ++ ts) (reverse (flat_map labels_in kids) ++ os)
    ≡ reverse (flat_map rows_of (with_fresh_kids bytes kids n us)) ++ fresh_rows bytes n ts os
kids_back bytes at [] e f n [] ts os h = let z : n + 0 ≡ n = omega arith in ap (λ m. fresh_rows bytes m ts os) z
kids_back bytes at [] e f n (u ∷ us) ts os h = absurd (omega (arith, h))
kids_back bytes at (x ∷ xs) e f n [] ts os h = absurd (omega (arith, h))
kids_back bytes at (x ∷ xs) e f n (u ∷ us) ts os h =
    let y : Plain = with_fresh bytes x n u in
    let m : ℕ = n + draws_of bytes x in
    let ys : List Plain = with_fresh_kids bytes xs m us in
    let z : n + sum_by (draws_of bytes) (x ∷ xs) ≡ m + sum_by (draws_of bytes) xs = omega (arith, sum_by-cons (draws_of bytes) x xs) in
    ap (λ k. fresh_rows bytes k (reverse (u ∷ us) ++ ts) (reverse (flat_map labels_in (x ∷ xs)) ++ os)) z
    ∙ ap (λ vs. fresh_rows bytes (m + sum_by (draws_of bytes) xs) vs (reverse (flat_map labels_in (x ∷ xs)) ++ os)) (turned (u ∷ []) us ts)
    ∙ ap (λ ls. fresh_rows bytes (m + sum_by (draws_of bytes) xs) (reverse us ++ (u ∷ ts)) (reverse ls ++ os)) (flat_map-cons labels_in x xs)
    ∙ ap (fresh_rows bytes (m + sum_by (draws_of bytes) xs) (reverse us ++ (u ∷ ts))) (turned (labels_in x) (flat_map labels_in xs) os)
    ∙ kids_back bytes at xs e.1 f.1 m us (u ∷ ts) (reverse (labels_in x) ++ os) (omega (arith, h))
    ∙ ap (λ rs. reverse (flat_map rows_of ys) ++ rs) (e.0 f.0 n u ts os)
    ∙ sym (turned (rows_of y) (flat_map rows_of ys) (fresh_rows bytes n ts os))
    ∙ ap (λ rs. reverse rs ++ fresh_rows bytes n ts os) (sym (flat_map-cons rows_of y ys))

pub rows_back : (bytes : List ℕ) (at : ℕ) (x : Plain) → AreFitting bytes at x → (n : ℕ) (t : List WSym) (ts : List (List WSym)) (os : List (Option ℕ))
    → fresh_rows bytes (n + draws_of bytes x) (t ∷ ts) (reverse (labels_in x) ++ os) ≡ reverse (rows_of (with_fresh bytes x n t)) ++ fresh_rows bytes n ts os
rows_back bytes at = by_trees (RowsBack bytes at)
    (λ u f n t ts os.
    let z : n + draws_of bytes (unknown u) ≡ n = omega (arith, draws_of-unknown bytes u) in
    ap (λ m. fresh_rows bytes m (t ∷ ts) (reverse (labels_in (unknown u)) ++ os)) z
    ∙ ap (λ ls. fresh_rows bytes n (t ∷ ts) (reverse ls ++ os)) (labels_in-unknown u)
    ∙ sym (ap (λ y. reverse (rows_of y) ++ fresh_rows bytes n ts os) (with_fresh-unknown bytes u n t) ∙ ap (λ rs. reverse rs ++ fresh_rows bytes n ts os) (rows_of-unknown t)))
    (λ u l s kids e f n t ts os.
    let parts = fitting-kids bytes at u l s kids f in
    let own = fitting-known bytes at u l s kids parts.1 in
    let sigma : Pairs = own_values bytes l kids n in
    let us : List (List WSym) = own_targets bytes l kids n in
    let ys : List Plain = with_fresh_kids bytes kids n us in
    let r : Row = record { target = t; label = Some l; sigma = sigma } in
    let whole : ℕ = n + draws_of bytes (known u l s kids) in
    let z : whole - length (variables_for bytes l) ≡ own_from bytes kids n = omega (arith, draws_of-known bytes u l s kids) in
    let many : length us ≡ length kids = length-map (premises_of bytes l) (applied sigma) ∙ sym own.1 in
    ap (λ ls. fresh_rows bytes whole (t ∷ ts) (reverse ls ++ os)) (labels_in-known u l s kids)
    ∙ ap (fresh_rows bytes whole (t ∷ ts)) (turned (flat_map labels_in kids) (Some l ∷ []) os)
    ∙ ap (λ m. record { target = t; label = Some l; sigma = fresh_for bytes m l } ∷ fresh_rows bytes m (reverse (map (applied (fresh_for bytes m l)) (premises_of bytes l)) ++ ts) (reverse (flat_map labels_in kids) ++ os)) z
    ∙ ap (λ rs. r ∷ rs) (kids_back bytes at kids e parts.0 n us ts os many)
    ∙ sym (turned (flat_map rows_of ys) (r ∷ []) (fresh_rows bytes n ts os))
    ∙ ap (λ rs. reverse rs ++ fresh_rows bytes n ts os) (sym (rows_of-known t l sigma ys))
    ∙ ap (λ y. reverse (rows_of y) ++ fresh_rows bytes n ts os) (sym (with_fresh-known bytes u l s kids n t)))

-- so its rows follow from its labels, with any target and numbers
pub rows-with_fresh : (bytes : List ℕ) (at : ℕ) (x : Plain) → AreFitting bytes at x → (n : ℕ) (t : List WSym)
    → reverse (rows_of (with_fresh bytes x n t)) ≡ fresh_rows bytes (n + draws_of bytes x) (t ∷ []) (reverse (labels_in x))
rows-with_fresh bytes at x f n t =
    sym (append-nil (reverse (rows_of (with_fresh bytes x n t))))
    ∙ sym (rows_back bytes at x f n t [] [])
    ∙ ap (fresh_rows bytes (n + draws_of bytes x) (t ∷ [])) (append-nil (reverse (labels_in x)))

-- and so do those of the proof that labels begin
pub rows-begun : (bytes : List ℕ) (at : ℕ) (goal : List WSym) (labels : List (Option ℕ)) (p : Proof) → fresh_proof_of bytes goal labels ≡ Some p → All (MayStand bytes at) labels
    → reverse (rows_of p.plain) ≡ fresh_rows bytes p.next (goal ∷ []) (reverse labels)
rows-begun bytes at goal labels p h m =
    let b = begins bytes goal labels p h in
    let x : Plain = b.tree in
    let f : AreFitting bytes at x = fitting-tree_of bytes at labels x b.folds m in
    ap (λ (q : Proof). reverse (rows_of q.plain)) (sym b.fresh)
    ∙ rows-with_fresh bytes at x f 1 goal
    ∙ ap (λ ls. fresh_rows bytes (1 + draws_of bytes x) (goal ∷ []) (reverse ls)) (labels_in-tree_of bytes labels x b.folds)
    ∙ ap (λ (q : Proof). fresh_rows bytes q.next (goal ∷ []) (reverse labels)) b.fresh

pub made-begun : (bytes : List ℕ) (at : ℕ) (goal : List WSym) (labels : List (Option ℕ)) (p : Proof) → fresh_proof_of bytes goal labels ≡ Some p → All (MayStand bytes at) labels
    → with_rows bytes [] (rows_of p.plain) ≡ p.plain ∷ []
made-begun bytes at goal labels p h m =
    let b = begins bytes goal labels p h in
    rows_make_all bytes at p.plain (subst (λ (q : Proof). AreFitting bytes at q.plain) b.fresh
    (fitting-with_fresh bytes at b.tree (fitting-tree_of bytes at labels b.tree b.folds m) 1 goal))

-- the steps of a part of a valid proof fit
pub fitting-part : (bytes : List ℕ) (at : ℕ) (goal : List WSym) (p : Proof) (k : ℕ) → IsValid bytes at goal p → 1 ≤ k → k ≤ size_of p.plain → AreFitting bytes at (step_at p.plain k)
fitting-part bytes at goal p k v h g = sound-fitting (setting_of bytes at p) (step_at p.plain k) (sound-part (setting_of bytes at p) p.plain k h g v.steps)
