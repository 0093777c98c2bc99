-- The tree of a list of labels has these labels, and each tree comes of its own.
use Rattle.std.proofs.Common.{zero, suc, ◌≡◌, ℕ, ◌+◌, ◌-◌, ◌≤◌, Bool, true, false, List, [], ◌∷◌, ◌++◌, map, length, take, drop, get_or, nat_le, Option, None, Some, if◌then◌else◌, refl, sym, ◌∙◌, ap, subst, arith, append_assoc, length-append}
use Rattle.std.specs.List.{flat_map, sum_by, All, AllByRecursion as ByRecursion}
use Rattle.std.specs.Option.{option_map}
use Rattle.std.proofs.Math.Seq.{drop-append_seam, take-append_seam}
use Rattle.std.proofs.lemmas.Bool.{leb-true, le-leb}
use Rattle.std.proofs.lemmas.Option.{none-some}
use Rattle.std.proofs.lemmas.List.Sums.{sum_by-append, sum_by-cons}
use Rattle.std.proofs.lemmas.List.{append-nil, length-drop, take-append-drop, map-append, take_all}
use Rattle.std.proofs.lemmas.List.Concat.{flat_map-append, flat_map-cons}
use Rattle.std.proofs.lemmas.List.Elements.{recursion_from_All}
use Rattle.mm_subst.specs.declared.symbol.WSym.{WSym}
use Rattle.mm_subst.specs.Substitutions.{Pairs, applied}
use Rattle.mm_plain.specs.declared.plain.Plain.{Plain}
use Rattle.mm_plain.specs.declared.plain.Plain.TheOpen as L
use Rattle.mm_plain.specs.declared.plain.Plain.TheFolds as F
use Rattle.mm_plain.specs.Premises.{premises_of, variables_for, may_stand}
use Rattle.mm_plain.specs.Shape.{Each, Proof, known, unknown, size_of, height_of, steps_of}
use Rattle.mm_plain.specs.Sources.{sigma_of}
use Rattle.mm_plain.specs.Numbers.{labels_in}
use Rattle.mm_plain.specs.Valid.{Setting, first_setting, IsString, IsValid, most_steps, most_levels, most_works}
use Rattle.mm_plain.specs.Drawing.{draws_by, draws_of, fresh_for, with_fresh, with_fresh_kids, IsFitting, AreFitting}
use Rattle.mm_plain.specs.LabelTrees.{takes, tree_over, with_label, with_labels, only_one, only_of, tree_of, fresh_proof, fresh_proof_of, MayStand, fresh_by, bare, bare_step}
use Rattle.mm_plain.proofs.Equations.{by_trees, steps_of-unknown, steps_of-known}
use Rattle.mm_plain.proofs.Read.{sigma_of-unknown, sigma_of-known}
use Rattle.mm_plain.proofs.Walks.{labels_in-unknown, labels_in-known, length-labels_in}
use Rattle.mm_plain.proofs.Kept.{each-join}
use Rattle.mm_plain.proofs.Moved.{at_next, moved-string, string-below}
use Rattle.mm_plain.proofs.Drawing.{own_values, own_targets, with_fresh-unknown, with_fresh-known, labels_in-with_fresh, size_of-with_fresh, height_of-with_fresh, target_of-with_fresh, fitting-known, known-fitting, unknown-fitting, fitting-kids, sound-with_fresh}

-- one label more

takes_some : (bytes : List ℕ) (xs : List Plain) (id : ℕ) → length (premises_of bytes id) ≤ length xs → length (drop (length xs - length (premises_of bytes id)) xs) ≡ length (premises_of bytes id)
takes_some bytes xs id h = omega (arith, length-drop (length xs - length (premises_of bytes id)) xs)

abbrev labels_of_all : List Plain → List (Option ℕ)
labels_of_all xs = flat_map labels_in xs

labels_over : (o : Option ℕ) (kids : List Plain) → (o ≡ None → kids ≡ []) → labels_in (tree_over o kids) ≡ labels_of_all kids ++ o ∷ []
labels_over None kids h = labels_in-unknown [] ∙ ap (λ ks. labels_of_all ks ++ None ∷ []) (sym (h refl))
labels_over (Some id) kids h = labels_in-known [] id [] kids

drop_all : (xs : List Plain) → drop (length xs) xs ≡ []
drop_all [] = refl
drop_all (x ∷ xs) = drop_all xs

nothing_left : (xs : List Plain) → drop (length xs - 0) xs ≡ []
nothing_left xs = let z : length xs - 0 ≡ length xs = omega arith in ap (λ n. drop n xs) z ∙ drop_all xs

none_takes : (bytes : List ℕ) (xs : List Plain) (o : Option ℕ) → o ≡ None → drop (length xs - takes bytes o) xs ≡ []
none_takes bytes xs None h = nothing_left xs
none_takes bytes xs (Some id) h = absurd (none-some id (sym h))

labels_more : (bytes : List ℕ) (xs : List Plain) (o : Option ℕ) → labels_of_all (with_label bytes xs o) ≡ labels_of_all xs ++ o ∷ []
labels_more bytes xs o =
    let k : ℕ = length xs - takes bytes o in
    flat_map-append labels_in (take k xs) (tree_over o (drop k xs) ∷ [])
    ∙ ap (λ os. labels_of_all (take k xs) ++ os) (append-nil (labels_in (tree_over o (drop k xs))) ∙ labels_over o (drop k xs) (none_takes bytes xs o))
    ∙ sym (append_assoc (labels_of_all (take k xs)) (labels_of_all (drop k xs)) (o ∷ []))
    ∙ ap (λ os. os ++ o ∷ []) (sym (flat_map-append labels_in (take k xs) (drop k xs)) ∙ ap labels_of_all (take-append-drop k xs))

-- several

if_some : {A : Type 0} (b : Bool) (o : Option A) (a : A) → (if b then o else None) ≡ Some a → (b ≡ true) × (o ≡ Some a)
if_some true o a h = (refl, h)
if_some false o a h = absurd (none-some a h)

some_is : {A : Type 0} (a b : A) → Some a ≡ Some b → a ≡ b
some_is a b h = cc

labels_after : (bytes : List ℕ) (xs ys : List Plain) (os : List (Option ℕ)) → with_labels bytes xs os ≡ Some ys → labels_of_all ys ≡ labels_of_all xs ++ os
labels_after bytes xs ys [] h = ap labels_of_all (sym (some_is xs ys h)) ∙ sym (append-nil (labels_of_all xs))
labels_after bytes xs ys (o ∷ os) h =
    let w = if_some (nat_le (takes bytes o) (length xs)) (with_labels bytes (with_label bytes xs o) os) ys h in
    labels_after bytes (with_label bytes xs o) ys os w.1
    ∙ ap (λ ls. ls ++ os) (labels_more bytes xs o)
    ∙ append_assoc (labels_of_all xs) (o ∷ []) os

only_is : (xs : List Plain) (x : Plain) → only_one xs ≡ Some x → xs ≡ x ∷ []
only_is [] x h = absurd (none-some x h)
only_is (y ∷ []) x h = ap (λ z. z ∷ []) (some_is y x h)
only_is (y ∷ z ∷ zs) x h = absurd (none-some x h)

only_after : (o : Option (List Plain)) (x : Plain) → only_of o ≡ Some x → o ≡ Some (x ∷ [])
only_after None x h = absurd (none-some x h)
only_after (Some xs) x h = ap Some (only_is xs x h)

-- the tree of labels has these labels
pub labels_in-tree_of : (bytes : List ℕ) (labels : List (Option ℕ)) (x : Plain) → tree_of bytes labels ≡ Some x → labels_in x ≡ labels
unfolding tree_of
labels_in-tree_of bytes labels x h =
    sym (append-nil (labels_in x)) ∙ labels_after bytes [] (x ∷ []) labels (only_after (with_labels bytes [] labels) x h)

-- and its steps fit, where the labels may stand

pub known_fits : (bytes : List ℕ) (at : ℕ) (t : List WSym) (id : ℕ) (s : Pairs) (kids : List Plain) → Each (AreFitting bytes at) kids → may_stand bytes at id ≡ true → length kids ≡ length (premises_of bytes id)
    → AreFitting bytes at (known t id s kids)
unfolding AreFitting
known_fits bytes at t id s kids e h g = subst (Each (IsFitting bytes at)) (sym (steps_of-known t id s kids))
    (each-join (IsFitting bytes at) (flat_map steps_of kids) (known t id s kids ∷ []) (all kids e) (known-fitting bytes at t id s kids h g, tt))
  where
    all : (xs : List Plain) → Each (AreFitting bytes at) xs → Each (IsFitting bytes at) (flat_map steps_of xs)
    all [] f = tt
    all (x ∷ xs) f = subst (Each (IsFitting bytes at)) (sym (flat_map-cons steps_of x xs)) (each-join (IsFitting bytes at) (steps_of x) (flat_map steps_of xs) f.0 (all xs f.1))

pub unknown_fits : (bytes : List ℕ) (at : ℕ) (t : List WSym) → AreFitting bytes at (unknown t)
unfolding AreFitting
unknown_fits bytes at t = subst (Each (IsFitting bytes at)) (sym (steps_of-unknown t)) (unknown-fitting bytes at t, tt)

each_take : (P : Plain → Type 0) (n : ℕ) (xs : List Plain) → Each P xs → Each P (take n xs)
each_take P zero xs e = tt
each_take P (suc n) [] e = tt
each_take P (suc n) (x ∷ xs) e = (e.0, each_take P n xs e.1)

each_drop : (P : Plain → Type 0) (n : ℕ) (xs : List Plain) → Each P xs → Each P (drop n xs)
each_drop P zero xs e = e
each_drop P (suc n) [] e = tt
each_drop P (suc n) (x ∷ xs) e = each_drop P n xs e.1

tree_fits : (bytes : List ℕ) (at : ℕ) (xs : List Plain) (o : Option ℕ) → Each (AreFitting bytes at) xs → MayStand bytes at o → takes bytes o ≤ length xs
    → AreFitting bytes at (tree_over o (drop (length xs - takes bytes o) xs))
tree_fits bytes at xs None e h room = unknown_fits bytes at []
tree_fits bytes at xs (Some id) e h room =
    let k : ℕ = length xs - length (premises_of bytes id) in
    known_fits bytes at [] id [] (drop k xs) (each_drop (AreFitting bytes at) k xs e) h (takes_some bytes xs id room)

all_fit : (bytes : List ℕ) (at : ℕ) (xs ys : List Plain) (os : List (Option ℕ)) → Each (AreFitting bytes at) xs → ByRecursion (MayStand bytes at) os
    → with_labels bytes xs os ≡ Some ys → Each (AreFitting bytes at) ys
all_fit bytes at xs ys [] e m h = subst (Each (AreFitting bytes at)) (some_is xs ys h) e
all_fit bytes at xs ys (o ∷ os) e m h =
    let k : ℕ = length xs - takes bytes o in
    let w = if_some (nat_le (takes bytes o) (length xs)) (with_labels bytes (with_label bytes xs o) os) ys h in
    let one = tree_fits bytes at xs o e m.0 (leb-true (takes bytes o) (length xs) w.0) in
    all_fit bytes at (with_label bytes xs o) ys os
    (each-join (AreFitting bytes at) (take k xs) (tree_over o (drop k xs) ∷ []) (each_take (AreFitting bytes at) k xs e) (one, tt)) m.1 w.1

pub fitting-tree_of : (bytes : List ℕ) (at : ℕ) (labels : List (Option ℕ)) (x : Plain) → tree_of bytes labels ≡ Some x → All (MayStand bytes at) labels → AreFitting bytes at x
unfolding tree_of
fitting-tree_of bytes at labels x h m =
    (all_fit bytes at [] (x ∷ []) labels tt (recursion_from_All _ labels m) (only_after (with_labels bytes [] labels) x h)).0

-- each tree whose steps fit comes of its labels, without its strings

pub bare-unknown : (t : List WSym) → bare (unknown t) ≡ unknown []
unfolding bare
bare-unknown t = F.fold-roll-Plain Plain bare_step (L.Unknown t)

pub bare-known : (t : List WSym) (l : ℕ) (s : Pairs) (kids : List Plain) → bare (known t l s kids) ≡ known [] l [] (map bare kids)
unfolding bare
bare-known t l s kids = F.fold-roll-Plain Plain bare_step (L.Known t l s kids)

abbrev Folds : List ℕ → ℕ → Plain → Type 0
Folds bytes at x = AreFitting bytes at x → (xs : List Plain) (os : List (Option ℕ)) → with_labels bytes xs (labels_in x ++ os) ≡ with_labels bytes (xs ++ bare x ∷ []) os

kids_fold : (bytes : List ℕ) (at : ℕ) (kids : List Plain) → Each (Folds bytes at) kids → Each (AreFitting bytes at) kids → (xs : List Plain) (os : List (Option ℕ))
    → with_labels bytes xs (labels_of_all kids ++ os) ≡ with_labels bytes (xs ++ map bare kids) os
kids_fold bytes at [] e f xs os = ap (λ ys. with_labels bytes ys os) (sym (append-nil xs))
kids_fold bytes at (k ∷ ks) e f xs os =
    ap (λ ls. with_labels bytes xs (ls ++ os)) (flat_map-cons labels_in k ks)
    ∙ ap (with_labels bytes xs) (append_assoc (labels_in k) (labels_of_all ks) os)
    ∙ e.0 f.0 xs (labels_of_all ks ++ os)
    ∙ kids_fold bytes at ks e.1 f.1 (xs ++ bare k ∷ []) os
    ∙ ap (λ ys. with_labels bytes ys os) (append_assoc xs (bare k ∷ []) (map bare ks))

length_map : {A B : Type 0} (f : A → B) (xs : List A) → length (map f xs) ≡ length xs
length_map f [] = refl
length_map f (x ∷ xs) = let e = length_map f xs in omega (arith, e)

known_over : (bytes : List ℕ) (id : ℕ) (xs kids : List Plain) → length kids ≡ length (premises_of bytes id) → with_label bytes (xs ++ kids) (Some id) ≡ xs ++ known [] id [] kids ∷ []
known_over bytes id xs kids h =
    let left : length (xs ++ kids) - length (premises_of bytes id) ≡ length xs = omega (arith, length-append xs kids, h) in
    ap (λ k. take k (xs ++ kids) ++ known [] id [] (drop k (xs ++ kids)) ∷ []) left
    ∙ ap (λ ys. ys ++ known [] id [] (drop (length xs) (xs ++ kids)) ∷ []) (take-append_seam xs kids)
    ∙ ap (λ ys. xs ++ known [] id [] ys ∷ []) (drop-append_seam xs kids)

step_known : (bytes : List ℕ) (id : ℕ) (xs kids : List Plain) (os : List (Option ℕ)) → length kids ≡ length (premises_of bytes id)
    → with_labels bytes (xs ++ kids) (Some id ∷ os) ≡ with_labels bytes (xs ++ known [] id [] kids ∷ []) os
step_known bytes id xs kids os h =
    let room : nat_le (length (premises_of bytes id)) (length (xs ++ kids)) ≡ true = le-leb _ _ (omega (arith, length-append xs kids, h)) in
    ap (λ b. if b then with_labels bytes (with_label bytes (xs ++ kids) (Some id)) os else None) room
    ∙ ap (λ ys. with_labels bytes ys os) (known_over bytes id xs kids h)

step_unknown : (bytes : List ℕ) (xs : List Plain) (os : List (Option ℕ)) → with_labels bytes xs (None ∷ os) ≡ with_labels bytes (xs ++ unknown [] ∷ []) os
step_unknown bytes xs os =
    ap (λ b. if b then with_labels bytes (with_label bytes xs None) os else None) (le-leb 0 (length xs) (omega arith))
    ∙ ap (λ ys. with_labels bytes (ys ++ unknown [] ∷ []) os) (take_all (length xs - 0) xs (omega arith))

pub folds : (bytes : List ℕ) (at : ℕ) (x : Plain) → AreFitting bytes at x → (xs : List Plain) (os : List (Option ℕ)) → with_labels bytes xs (labels_in x ++ os) ≡ with_labels bytes (xs ++ bare x ∷ []) os
folds bytes at = by_trees (Folds bytes at)
    (λ t f xs os.
    ap (λ ls. with_labels bytes xs (ls ++ os)) (labels_in-unknown t)
    ∙ step_unknown bytes xs os
    ∙ ap (λ y. with_labels bytes (xs ++ y ∷ []) os) (sym (bare-unknown t)))
    (λ t l s kids e f xs os.
    let parts = fitting-kids bytes at t l s kids f in
    let own = fitting-known bytes at t l s kids parts.1 in
    ap (λ ls. with_labels bytes xs (ls ++ os)) (labels_in-known t l s kids)
    ∙ ap (with_labels bytes xs) (append_assoc (labels_of_all kids) (Some l ∷ []) os)
    ∙ kids_fold bytes at kids e parts.0 xs (Some l ∷ os)
    ∙ step_known bytes l xs (map bare kids) os (length_map bare kids ∙ own.1)
    ∙ ap (λ y. with_labels bytes (xs ++ y ∷ []) os) (sym (bare-known t l s kids)))

pub tree_of-labels_in : (bytes : List ℕ) (at : ℕ) (x : Plain) → AreFitting bytes at x → tree_of bytes (labels_in x) ≡ Some (bare x)
unfolding tree_of
tree_of-labels_in bytes at x f =
    ap (λ ls. only_of (with_labels bytes [] ls)) (sym (append-nil (labels_in x))) ∙ ap only_of (folds bytes at x f [] [])

-- a tree with fresh work variables does not depend on the strings that it had

labels_of_bare : (kids : List Plain) → Each (λ x. labels_in (bare x) ≡ labels_in x) kids → labels_of_all (map bare kids) ≡ labels_of_all kids
labels_of_bare [] e = refl
labels_of_bare (x ∷ xs) e =
    flat_map-cons labels_in (bare x) (map bare xs)
    ∙ ap (λ ls. ls ++ labels_of_all (map bare xs)) e.0
    ∙ ap (λ ls. labels_in x ++ ls) (labels_of_bare xs e.1)
    ∙ sym (flat_map-cons labels_in x xs)

pub labels_in-bare : (x : Plain) → labels_in (bare x) ≡ labels_in x
labels_in-bare = by_trees (λ x. labels_in (bare x) ≡ labels_in x)
    (λ t. ap labels_in (bare-unknown t) ∙ labels_in-unknown [] ∙ sym (labels_in-unknown t))
    (λ t l s kids e. ap labels_in (bare-known t l s kids) ∙ labels_in-known [] l [] (map bare kids) ∙ ap (λ ls. ls ++ Some l ∷ []) (labels_of_bare kids e) ∙ sym (labels_in-known t l s kids))

pub draws_of-bare : (bytes : List ℕ) (x : Plain) → draws_of bytes (bare x) ≡ draws_of bytes x
unfolding draws_of
draws_of-bare bytes x = ap (sum_by (draws_by bytes)) (labels_in-bare x)

draws_of_all : (bytes : List ℕ) (kids : List Plain) → sum_by (draws_of bytes) (map bare kids) ≡ sum_by (draws_of bytes) kids
draws_of_all bytes [] = refl
draws_of_all bytes (x ∷ xs) = omega (arith, sum_by-cons (draws_of bytes) (bare x) (map bare xs), sum_by-cons (draws_of bytes) x xs, draws_of-bare bytes x, draws_of_all bytes xs)

abbrev FreshOf : List ℕ → Plain → Type 0
FreshOf bytes x = (n : ℕ) (t : List WSym) → with_fresh bytes (bare x) n t ≡ with_fresh bytes x n t

fresh_of_kids : (bytes : List ℕ) (kids : List Plain) → Each (FreshOf bytes) kids → (n : ℕ) (ts : List (List WSym)) → with_fresh_kids bytes (map bare kids) n ts ≡ with_fresh_kids bytes kids n ts
fresh_of_kids bytes [] e n ts = refl
fresh_of_kids bytes (x ∷ xs) e n ts =
    ap (λ y. y ∷ with_fresh_kids bytes (map bare xs) (n + draws_of bytes (bare x)) (drop 1 ts)) (e.0 n (get_or ts 0 []))
    ∙ ap (λ m. with_fresh bytes x n (get_or ts 0 []) ∷ with_fresh_kids bytes (map bare xs) (n + m) (drop 1 ts)) (draws_of-bare bytes x)
    ∙ ap (λ ys. with_fresh bytes x n (get_or ts 0 []) ∷ ys) (fresh_of_kids bytes xs e.1 (n + draws_of bytes x) (drop 1 ts))

pub with_fresh-bare : (bytes : List ℕ) (x : Plain) (n : ℕ) (t : List WSym) → with_fresh bytes (bare x) n t ≡ with_fresh bytes x n t
with_fresh-bare bytes = by_trees (FreshOf bytes)
    (λ u n t. ap (λ y. with_fresh bytes y n t) (bare-unknown u) ∙ with_fresh-unknown bytes [] n t ∙ sym (with_fresh-unknown bytes u n t))
    (λ u l s kids e n t.
    ap (λ y. with_fresh bytes y n t) (bare-known u l s kids)
    ∙ with_fresh-known bytes [] l [] (map bare kids) n t
    ∙ ap (λ m. known t l (fresh_for bytes (n + m) l) (with_fresh_kids bytes (map bare kids) n (map (applied (fresh_for bytes (n + m) l)) (premises_of bytes l)))) (draws_of_all bytes kids)
    ∙ ap (known t l (own_values bytes l kids n)) (fresh_of_kids bytes kids e n (own_targets bytes l kids n))
    ∙ sym (with_fresh-known bytes u l s kids n t))

pub fresh_proof-bare : (bytes : List ℕ) (goal : List WSym) (x : Plain) → fresh_proof bytes goal (bare x) ≡ fresh_proof bytes goal x
fresh_proof-bare bytes goal x =
    ap (λ y. record { plain = y; next = 1 + draws_of bytes (bare x) }) (with_fresh-bare bytes x 1 goal)
    ∙ ap (λ m. record { plain = with_fresh bytes x 1 goal; next = 1 + m }) (draws_of-bare bytes x)

-- so the proof of a tree's labels is that tree with fresh work variables
pub fresh_proof_of-labels_in : (bytes : List ℕ) (at : ℕ) (goal : List WSym) (x : Plain) → AreFitting bytes at x → fresh_proof_of bytes goal (labels_in x) ≡ Some (fresh_proof bytes goal x)
fresh_proof_of-labels_in bytes at goal x f = ap (option_map (fresh_proof bytes goal)) (tree_of-labels_in bytes at x f) ∙ ap Some (fresh_proof-bare bytes goal x)

-- the substitutions, in postorder

fresh_by-append : (bytes : List ℕ) (n : ℕ) (os rs : List (Option ℕ)) → fresh_by bytes n (os ++ rs) ≡ fresh_by bytes n os ++ fresh_by bytes (n + sum_by (draws_by bytes) os) rs
fresh_by-append bytes n [] rs = let z : n ≡ n + 0 = omega arith in ap (λ m. fresh_by bytes m rs) z
fresh_by-append bytes n (None ∷ os) rs =
    let z : n + sum_by (draws_by bytes) os ≡ n + sum_by (draws_by bytes) (None ∷ os) = omega (arith, sum_by-cons (draws_by bytes) None os) in
    ap (λ ss. [] ∷ ss) (fresh_by-append bytes n os rs ∙ ap (λ m. fresh_by bytes n os ++ fresh_by bytes m rs) z)
fresh_by-append bytes n (Some id ∷ os) rs =
    let m : ℕ = n + length (variables_for bytes id) in
    let z : m + sum_by (draws_by bytes) os ≡ n + sum_by (draws_by bytes) (Some id ∷ os) = omega (arith, sum_by-cons (draws_by bytes) (Some id) os) in
    ap (λ ss. fresh_for bytes n id ∷ ss) (fresh_by-append bytes m os rs ∙ ap (λ k. fresh_by bytes m os ++ fresh_by bytes k rs) z)

-- the substitutions of the steps of a tree
abbrev pub sigmas_in : Plain → List Pairs
sigmas_in x = map sigma_of (steps_of x)

map-steps : (kids : List Plain) → map sigma_of (flat_map steps_of kids) ≡ flat_map sigmas_in kids
map-steps [] = refl
map-steps (x ∷ xs) = map-append sigma_of (steps_of x) (flat_map steps_of xs) ∙ ap (λ n. sigmas_in x ++ n) (map-steps xs)

sigmas_in-unknown : (t : List WSym) → sigmas_in (unknown t) ≡ [] ∷ []
sigmas_in-unknown t = ap (map sigma_of) (steps_of-unknown t) ∙ ap (λ s. s ∷ []) (sigma_of-unknown t)

sigmas_in-known : (t : List WSym) (l : ℕ) (s : Pairs) (kids : List Plain) → sigmas_in (known t l s kids) ≡ flat_map sigmas_in kids ++ s ∷ []
sigmas_in-known t l s kids =
    ap (map sigma_of) (steps_of-known t l s kids)
    ∙ map-append sigma_of (flat_map steps_of kids) (known t l s kids ∷ [])
    ∙ ap (λ n. n ++ sigma_of (known t l s kids) ∷ []) (map-steps kids)
    ∙ ap (λ r. flat_map sigmas_in kids ++ r ∷ []) (sigma_of-known t l s kids)

draws_are : (bytes : List ℕ) (x : Plain) → draws_of bytes x ≡ sum_by (draws_by bytes) (labels_in x)
unfolding draws_of
draws_are bytes x = refl

abbrev InOrder : List ℕ → Plain → Type 0
InOrder bytes x = (n : ℕ) (t : List WSym) → sigmas_in (with_fresh bytes x n t) ≡ fresh_by bytes n (labels_in x)

kids_in_order : (bytes : List ℕ) (kids : List Plain) → Each (InOrder bytes) kids → (n : ℕ) (ts : List (List WSym)) → flat_map sigmas_in (with_fresh_kids bytes kids n ts) ≡ fresh_by bytes n (labels_of_all kids)
kids_in_order bytes [] e n ts = refl
kids_in_order bytes (x ∷ xs) e n ts =
    let y : Plain = with_fresh bytes x n (get_or ts 0 []) in
    let ys : List Plain = with_fresh_kids bytes xs (n + draws_of bytes x) (drop 1 ts) in
    flat_map-cons sigmas_in y ys
    ∙ ap (λ ss. ss ++ flat_map sigmas_in ys) (e.0 n (get_or ts 0 []))
    ∙ ap (λ ss. fresh_by bytes n (labels_in x) ++ ss) (kids_in_order bytes xs e.1 (n + draws_of bytes x) (drop 1 ts))
    ∙ ap (λ m. fresh_by bytes n (labels_in x) ++ fresh_by bytes (n + m) (labels_of_all xs)) (draws_are bytes x)
    ∙ sym (fresh_by-append bytes n (labels_in x) (labels_of_all xs))
    ∙ ap (fresh_by bytes n) (sym (flat_map-cons labels_in x xs))

draws_in_all : (bytes : List ℕ) (kids : List Plain) → sum_by (draws_of bytes) kids ≡ sum_by (draws_by bytes) (labels_of_all kids)
draws_in_all bytes [] = refl
draws_in_all bytes (x ∷ xs) =
    omega (
      arith,
      sum_by-cons (draws_of bytes) x xs,
      draws_are bytes x,
      draws_in_all bytes xs,
      ap (sum_by (draws_by bytes)) (flat_map-cons labels_in x xs),
      sum_by-append (draws_by bytes) (labels_in x) (labels_of_all xs),
    )

-- work variables are drawn in postorder
pub sigmas_in-with_fresh : (bytes : List ℕ) (x : Plain) (n : ℕ) (t : List WSym) → sigmas_in (with_fresh bytes x n t) ≡ fresh_by bytes n (labels_in x)
sigmas_in-with_fresh bytes = by_trees (InOrder bytes)
    (λ u n t. ap sigmas_in (with_fresh-unknown bytes u n t) ∙ sigmas_in-unknown t ∙ ap (fresh_by bytes n) (sym (labels_in-unknown u)))
    (λ u l s kids e n t.
    let sigma : Pairs = own_values bytes l kids n in
    ap sigmas_in (with_fresh-known bytes u l s kids n t)
    ∙ sigmas_in-known t l sigma (with_fresh_kids bytes kids n (own_targets bytes l kids n))
    ∙ ap (λ ss. ss ++ sigma ∷ []) (kids_in_order bytes kids e n (own_targets bytes l kids n))
    ∙ ap (λ m. fresh_by bytes n (labels_of_all kids) ++ fresh_for bytes (n + m) l ∷ []) (draws_in_all bytes kids)
    ∙ sym (fresh_by-append bytes n (labels_of_all kids) (Some l ∷ []))
    ∙ ap (fresh_by bytes n) (sym (labels_in-known u l s kids)))

-- the proof that labels begin is valid

pub valid-fresh_proof : (bytes : List ℕ) (at : ℕ) (goal : List WSym) (x : Plain) → AreFitting bytes at x → IsString (first_setting bytes at) goal
    → size_of x ≤ most_steps → height_of x ≤ most_levels → draws_of bytes x ≤ most_works → IsValid bytes at goal (fresh_proof bytes goal x)
valid-fresh_proof bytes at goal x f g few low room =
    let n : ℕ = 1 + draws_of bytes x in
    let c : Setting = at_next (first_setting bytes at) n in
    record {
      goal_is = target_of-with_fresh bytes x 1 goal;
      steps = sound-with_fresh c x 1 goal f (moved-string (first_setting bytes at) n goal g (string-below (first_setting bytes at) n (omega arith) goal g)) (omega arith) (omega arith);
      counter = (omega arith, omega arith);
      few = omega (arith, size_of-with_fresh bytes x 1 goal);
      low = omega (arith, height_of-with_fresh bytes x 1 goal);
    }

map_some : {A B : Type 0} (f : A → B) (o : Option A) (b : B) → option_map f o ≡ Some b → (a : A) × (o ≡ Some a) × (f a ≡ b)
map_some f None b h = absurd (none-some b h)
map_some f (Some a) b h = (a, refl, some_is (f a) b h)

-- what labels begin: a tree that they fold to, with fresh work variables
pub record Begins (bytes : List ℕ) (goal : List WSym) (labels : List (Option ℕ)) (p : Proof) : Type 0 where
  pub tree : Plain
  pub folds : tree_of bytes labels ≡ Some tree
  pub fresh : fresh_proof bytes goal tree ≡ p

pub begins : (bytes : List ℕ) (goal : List WSym) (labels : List (Option ℕ)) (p : Proof) → fresh_proof_of bytes goal labels ≡ Some p → Begins bytes goal labels p
begins bytes goal labels p h = let w = map_some (fresh_proof bytes goal) (tree_of bytes labels) p h in record { tree = w.0; folds = w.1; fresh = w.2 }

pub labels-begun : (bytes : List ℕ) (goal : List WSym) (labels : List (Option ℕ)) (p : Proof) → fresh_proof_of bytes goal labels ≡ Some p → labels_in p.plain ≡ labels
labels-begun bytes goal labels p h =
    let b = begins bytes goal labels p h in
    ap (λ (q : Proof). labels_in q.plain) (sym b.fresh) ∙ labels_in-with_fresh bytes b.tree 1 goal ∙ labels_in-tree_of bytes labels b.tree b.folds

pub size-begun : (bytes : List ℕ) (goal : List WSym) (labels : List (Option ℕ)) (p : Proof) → fresh_proof_of bytes goal labels ≡ Some p → size_of p.plain ≡ length labels
size-begun bytes goal labels p h = sym (length-labels_in p.plain) ∙ ap length (labels-begun bytes goal labels p h)

pub height-begun : (bytes : List ℕ) (goal : List WSym) (labels : List (Option ℕ)) (x : Plain) (p : Proof) → tree_of bytes labels ≡ Some x → fresh_proof_of bytes goal labels ≡ Some p
    → height_of p.plain ≡ height_of x
height-begun bytes goal labels x p h g =
    let is : fresh_proof bytes goal x ≡ p = some_is (fresh_proof bytes goal x) p (ap (option_map (fresh_proof bytes goal)) (sym h) ∙ g) in
    ap (λ (q : Proof). height_of q.plain) (sym is) ∙ height_of-with_fresh bytes x 1 goal

pub next-begun : (bytes : List ℕ) (goal : List WSym) (labels : List (Option ℕ)) (p : Proof) → fresh_proof_of bytes goal labels ≡ Some p → p.next ≡ 1 + sum_by (draws_by bytes) labels
next-begun bytes goal labels p h =
    let b = begins bytes goal labels p h in
    ap (λ (q : Proof). q.next) (sym b.fresh) ∙ ap (λ m. 1 + m) (draws_are bytes b.tree ∙ ap (sum_by (draws_by bytes)) (labels_in-tree_of bytes labels b.tree b.folds))

pub sigmas-begun : (bytes : List ℕ) (goal : List WSym) (labels : List (Option ℕ)) (p : Proof) → fresh_proof_of bytes goal labels ≡ Some p → map sigma_of (steps_of p.plain) ≡ fresh_by bytes 1 labels
sigmas-begun bytes goal labels p h =
    let b = begins bytes goal labels p h in
    ap (λ (q : Proof). sigmas_in q.plain) (sym b.fresh) ∙ sigmas_in-with_fresh bytes b.tree 1 goal ∙ ap (fresh_by bytes 1) (labels_in-tree_of bytes labels b.tree b.folds)

pub valid-begun : (bytes : List ℕ) (at : ℕ) (goal : List WSym) (labels : List (Option ℕ)) (p : Proof) → fresh_proof_of bytes goal labels ≡ Some p → All (MayStand bytes at) labels
    → IsString (first_setting bytes at) goal → length labels ≤ most_steps → height_of p.plain ≤ most_levels → p.next ≤ most_works + 1 → IsValid bytes at goal p
valid-begun bytes at goal labels p h m g few low room =
    let b = begins bytes goal labels p h in
    let x : Plain = b.tree in
    subst (IsValid bytes at goal) b.fresh (valid-fresh_proof bytes at goal x (fitting-tree_of bytes at labels x b.folds m) g
    (omega (arith, sym (length-labels_in x), ap length (labels_in-tree_of bytes labels x b.folds)))
    (omega (arith, ap (λ (q : Proof). height_of q.plain) b.fresh, height_of-with_fresh bytes x 1 goal))
    (omega (arith, ap (λ (q : Proof). q.next) b.fresh)))
