-- Labels that are laid one behind the other, by their numbers.
use Rattle.std.proofs.Common.{Bool, true, false, nat_le, nat_lt, if◌then◌else◌, slice_get, All, subst, ◌≡◌, ◌≤◌, ◌<◌, ◌+◌, ◌-◌, ℕ, zero, suc, List, [], ◌∷◌, ◌++◌, map, length, take, drop, get_or, slice_range, Option, None, Some, refl, sym, ap, ◌∙◌, arith}
use Rattle.std.proofs.lemmas.List.{take_more, length-drop, length-map, map-append, get_or-drop, get_or-map, take-map, drop-map}
use Rattle.std.proofs.lemmas.Bool.Decides.{nat_tests}
use Rattle.mm_scope.specs.Contents.{labels_of}
use Rattle.mm_proof.specs.Flattening.{laid_again, Lays}
use Rattle.mm_proof.specs.declared.flat.Stretch.{Stretch}
use Rattle.mm_proof.specs.declared.step.StepKind.{StepKind}
use Rattle.mm_proof.specs.declared.step.StepKind.TheVariants.{Back}
use Rattle.mm_plain.specs.Numbers.{IsOwnLabel}
use Rattle.mm_edit.specs.Labelling.{number_for, label_for}

pub range_end : (xs : List (Option ℕ)) (b e : ℕ) (d : Option ℕ) → b ≤ e → e < length xs → slice_range xs b (e + 1) ≡ slice_range xs b e ++ get_or xs e d ∷ []
range_end xs b e d h lt =
    let more : e + 1 - b ≡ e - b + 1 = omega arith in
    let same : b + (e - b) ≡ e = omega arith in
    let len = length-drop b xs in
    ap (λ n. take n (drop b xs)) more ∙ take_more (drop b xs) (e - b) d (omega arith)
    ∙ ap (λ x. slice_range xs b e ++ x ∷ []) (get_or-drop b xs (e - b) d ∙ ap (λ n. get_or xs n d) same)

pub range_none : (xs : List (Option ℕ)) (b : ℕ) → slice_range xs b b ≡ []
range_none xs b = let e : b - b ≡ 0 = omega arith in ap (λ n. take n (drop b xs)) e

pub range_numbers : (xs : List (Option ℕ)) (b e : ℕ) → map number_for (slice_range xs b e) ≡ slice_range (map number_for xs) b e
range_numbers xs b e = sym (take-map number_for (e - b) (drop b xs)) ∙ ap (take (e - b)) (sym (drop-map number_for b xs))

-- a label by its number
label_back : (o : Option ℕ) → label_for (number_for o) ≡ o
label_back None = refl
label_back (Some l) = refl

pub labels_back : (os : List (Option ℕ)) (ns : List ℕ) → map number_for os ≡ ns → os ≡ map label_for ns
labels_back os ns e = sym (back os) ∙ ap (map label_for) e
  where
    back : (os : List (Option ℕ)) → map label_for (map number_for os) ≡ os
    back [] = refl
    back (o ∷ os) = ap (λ (p : Option ℕ). p ∷ map label_for (map number_for os)) (label_back o) ∙ ap (λ (ps : List (Option ℕ)). o ∷ ps) (back os)

-- a tree that is laid once more

within : (m n : ℕ) → m ≤ n → nat_le m n ≡ true
within m n h = grind (arith, nat_tests)

beyond : (m n : ℕ) → n < m → nat_le m n ≡ false
beyond m n h = grind (arith, nat_tests)

many : (xs : List (Option ℕ)) → length (map number_for xs) ≡ length xs
many xs = length-map xs number_for

pub lays_again : (before after : List (Option ℕ)) (trees : List Stretch) (kind : StepKind) (k : ℕ) (s : Stretch) → kind ≡ Back k → slice_get trees (k - 1) ≡ Some s → s.end ≤ length before
    → after ≡ before ++ slice_range before s.begin s.end → Lays (map number_for before) (map number_for after) trees kind
lays_again before after trees kind k s is at h e =
    subst (Lays (map number_for before) (map number_for after) trees) (sym is)
    (ap (map number_for) e
    ∙ map-append number_for before (slice_range before s.begin s.end)
    ∙ ap (λ (ns : List ℕ). map number_for before ++ ns) (range_numbers before s.begin s.end)
    ∙ sym (ap (λ (b : Bool). if b then map number_for before ++ slice_range (map number_for before) s.begin s.end else map number_for before) (within s.end (length (map number_for before)) (omega (arith, h, many before))))
    ∙ ap (laid_again (map number_for before)) (sym at))

pub lays_nothing : (before : List (Option ℕ)) (trees : List Stretch) (kind : StepKind) (k : ℕ) (s : Stretch) → kind ≡ Back k → slice_get trees (k - 1) ≡ Some s → length before < s.end
    → Lays (map number_for before) (map number_for before) trees kind
lays_nothing before trees kind k s is at h =
    subst (Lays (map number_for before) (map number_for before) trees) (sym is)
    (sym (ap (λ (b : Bool). if b then map number_for before ++ slice_range (map number_for before) s.begin s.end else map number_for before) (beyond s.end (length (map number_for before)) (omega (arith, h, many before))))
    ∙ ap (laid_again (map number_for before)) (sym at))

pub lays_none : (before : List (Option ℕ)) (trees : List Stretch) (kind : StepKind) (k : ℕ) → kind ≡ Back k → slice_get trees (k - 1) ≡ None → Lays (map number_for before) (map number_for before) trees kind
lays_none before trees kind k is at = subst (Lays (map number_for before) (map number_for before) trees) (sym is) (ap (laid_again (map number_for before)) (sym at))

-- the labels that are laid name statements of the database

own_by : (bytes : List ℕ) (o : Option ℕ) → number_for o < length (labels_of bytes) + 1 → IsOwnLabel bytes o
own_by bytes None h = tt
own_by bytes (Some l) h = omega arith

pub own_labels : (bytes : List ℕ) (os : List (Option ℕ)) → All (λ l. l < length (labels_of bytes) + 1) (map number_for os) → All (IsOwnLabel bytes) os
own_labels bytes os h = λ k d l. own_by bytes (get_or os k d) (subst (λ (n : ℕ). n < length (labels_of bytes) + 1) (get_or-map number_for os k d (number_for d) l) (h k (number_for d) (omega (arith, l, many os))))

-- what stands at a place

pub get_there : (xs : List Stretch) (k : ℕ) (s : Stretch) → k < length xs → s ≡ get_or xs k s → slice_get xs k ≡ Some s
get_there [] k s h is = absurd (omega arith)
get_there (x ∷ xs) zero s h is = ap Some (sym is)
get_there (x ∷ xs) (suc k) s h is = get_there xs k s (omega arith) is

pub get_past : (xs : List Stretch) (k : ℕ) → length xs ≤ k → slice_get xs k ≡ None
get_past [] k h = refl
get_past (x ∷ xs) zero h = absurd (omega arith)
get_past (x ∷ xs) (suc k) h = get_past xs k (omega arith)

pub less : (m n : ℕ) → true ≡ nat_lt m n → m < n
less m n h = grind (arith, nat_tests)

pub not_less : (m n : ℕ) → false ≡ nat_lt m n → n ≤ m
not_less m n h = grind (arith, nat_tests)
