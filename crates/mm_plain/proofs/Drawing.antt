-- Trees with fresh work variables: their shape, and that they are sound.
use Rattle.std.proofs.Common.{◌≡◌, ℕ, ◌+◌, ◌≤◌, max, true, List, [], ◌∷◌, ◌++◌, map, length, drop, get_or, Some, refl, sym, ◌∙◌, ap, subst, arith}
use Rattle.std.specs.List.{flat_map, sum_by, AllByRecursion as ByRecursion}
use Rattle.std.proofs.lemmas.List.Concat.{flat_map-cons}
use Rattle.std.proofs.lemmas.List.Elements.{recursion_from_All}
use Rattle.std.proofs.lemmas.List.Sums.{sum_by-append, sum_by-cons}
use Rattle.std.proofs.lemmas.List.{length-map}
use Rattle.mm_subst.specs.declared.symbol.WSym.{WSym}
use Rattle.mm_subst.specs.Substitutions.{Pairs, applied}
use Rattle.mm_plain.specs.declared.plain.Plain.{Plain}
use Rattle.mm_plain.specs.declared.plain.Plain.TheOpen as L
use Rattle.mm_plain.specs.declared.plain.Plain.TheViews as V
use Rattle.mm_plain.specs.declared.plain.Plain.TheFolds as F
use Rattle.mm_plain.specs.Premises.{premises_of, variables_for, may_stand}
use Rattle.mm_plain.specs.Shape.{Each, Proof, known, unknown, size_of, height_of, greatest, steps_of, step_at, target_of}
use Rattle.mm_plain.specs.Numbers.{labels_in}
use Rattle.mm_plain.specs.Valid.{Setting, setting_of, IsString, IsInstance, IsGood, IsSound, IsValid, most_works, most_steps, most_levels}
use Rattle.mm_plain.specs.Grafts.{raised}
use Rattle.mm_plain.specs.Drawing.{fresh_for, draws_by, draws_of, fresh_among, fresh_step, with_fresh, with_fresh_kids, with_fresh_in, placed_fresh, fitting_layer, IsFitting, AreFitting}
use Rattle.mm_plain.proofs.Equations.{by_trees, sum_by-map, height_of-unknown, height_of-known, target_of-unknown, target_of-known}
use Rattle.mm_plain.proofs.Sizes.{size-put}
use Rattle.mm_plain.proofs.Walks.{labels_in-unknown, labels_in-known, length-labels_in}
use Rattle.mm_plain.proofs.Kept.{valid-placed, sound-unknown, sound-known, put-kept, step-good, target-good, known-good}
use Rattle.mm_plain.proofs.Parts.{each-known, height-put-le, height-part}
use Rattle.mm_plain.proofs.Moved.{at_next, sound-raised}
use Rattle.mm_plain.proofs.Fresh.{fits-fresh}
use Rattle.mm_plain.proofs.Grafts.{sound-part, valid-raised}

-- the equations

fresh_among-kids : (bytes : List ℕ) (kids : List Plain) (n : ℕ) (ts : List (List WSym))
    → fresh_among bytes (map (λ (y : Plain). (y, with_fresh bytes y)) kids) n ts ≡ with_fresh_kids bytes kids n ts
fresh_among-kids bytes [] n ts = refl
fresh_among-kids bytes (x ∷ xs) n ts = ap (λ ys. with_fresh bytes x n (get_or ts 0 []) ∷ ys) (fresh_among-kids bytes xs (n + draws_of bytes x) (drop 1 ts))

pub with_fresh-unknown : (bytes : List ℕ) (u : List WSym) (n : ℕ) (t : List WSym) → with_fresh bytes (unknown u) n t ≡ unknown t
unfolding with_fresh
with_fresh-unknown bytes u n t = ap (λ (f : ℕ → List WSym → Plain). f n t) (F.para-roll-Plain (ℕ → List WSym → Plain) (fresh_step bytes) (L.Unknown u))

-- the number of the first work variable of a step's own
abbrev pub own_from : List ℕ → List Plain → ℕ → ℕ
own_from bytes kids n = n + sum_by (draws_of bytes) kids

-- the substitution of a step, and the targets of its children
abbrev pub own_values : List ℕ → ℕ → List Plain → ℕ → Pairs
own_values bytes l kids n = fresh_for bytes (own_from bytes kids n) l

abbrev pub own_targets : List ℕ → ℕ → List Plain → ℕ → List (List WSym)
own_targets bytes l kids n = map (applied (own_values bytes l kids n)) (premises_of bytes l)

pub with_fresh-known : (bytes : List ℕ) (u : List WSym) (l : ℕ) (s : Pairs) (kids : List Plain) (n : ℕ) (t : List WSym)
    → with_fresh bytes (known u l s kids) n t ≡ known t l (own_values bytes l kids n) (with_fresh_kids bytes kids n (own_targets bytes l kids n))
unfolding with_fresh
with_fresh-known bytes u l s kids n t =
    let es : List (Plain × (ℕ → List WSym → Plain)) = map (λ (y : Plain). (y, with_fresh bytes y)) kids in
    ap (λ (f : ℕ → List WSym → Plain). f n t) (F.para-roll-Plain (ℕ → List WSym → Plain) (fresh_step bytes) (L.Known u l s kids))
    ∙ ap (λ m. known t l (fresh_for bytes (n + m) l) (fresh_among bytes es n (map (applied (fresh_for bytes (n + m) l)) (premises_of bytes l)))) (sum_by-map (λ (e : Plain × (ℕ → List WSym → Plain)). draws_of bytes e.0) (λ (y : Plain). (y, with_fresh bytes y)) kids)
    ∙ ap (known t l (own_values bytes l kids n)) (fresh_among-kids bytes kids n (own_targets bytes l kids n))

-- the numbers that are drawn

draws_of_kids : (bytes : List ℕ) (kids : List Plain) → sum_by (draws_by bytes) (flat_map labels_in kids) ≡ sum_by (draws_of bytes) kids
unfolding draws_of
draws_of_kids bytes [] = refl
draws_of_kids bytes (x ∷ xs) =
    ap (sum_by (draws_by bytes)) (flat_map-cons labels_in x xs)
    ∙ sum_by-append (draws_by bytes) (labels_in x) (flat_map labels_in xs)
    ∙ ap (λ m. sum_by (draws_by bytes) (labels_in x) + m) (draws_of_kids bytes xs)
    ∙ sym (sum_by-cons (λ y. sum_by (draws_by bytes) (labels_in y)) x xs)

pub draws_of-unknown : (bytes : List ℕ) (t : List WSym) → draws_of bytes (unknown t) ≡ 0
unfolding draws_of
draws_of-unknown bytes t = ap (sum_by (draws_by bytes)) (labels_in-unknown t)

pub draws_of-known : (bytes : List ℕ) (t : List WSym) (l : ℕ) (s : Pairs) (kids : List Plain)
    → draws_of bytes (known t l s kids) ≡ sum_by (draws_of bytes) kids + length (variables_for bytes l)
unfolding draws_of
draws_of-known bytes t l s kids =
    ap (sum_by (draws_by bytes)) (labels_in-known t l s kids)
    ∙ sum_by-append (draws_by bytes) (flat_map labels_in kids) (Some l ∷ [])
    ∙ ap (λ m. m + sum_by (draws_by bytes) (Some l ∷ [])) (draws_of_kids bytes kids)
    ∙ (let z : sum_by (draws_by bytes) (Some l ∷ []) ≡ length (variables_for bytes l) = omega (arith, sum_by-cons (draws_by bytes) (Some l) []) in ap (λ m. sum_by (draws_of bytes) kids + m) z)

-- the shape

pub target_of-with_fresh : (bytes : List ℕ) (x : Plain) (n : ℕ) (t : List WSym) → target_of (with_fresh bytes x n t) ≡ t
target_of-with_fresh bytes = by_trees (λ x. (n : ℕ) (t : List WSym) → target_of (with_fresh bytes x n t) ≡ t)
    (λ u n t. ap target_of (with_fresh-unknown bytes u n t) ∙ target_of-unknown t)
    (λ u l s kids h n t. ap target_of (with_fresh-known bytes u l s kids n t) ∙ target_of-known t l (own_values bytes l kids n) (with_fresh_kids bytes kids n (own_targets bytes l kids n)))

abbrev KeepsLabels : List ℕ → Plain → Type 0
KeepsLabels bytes x = (n : ℕ) (t : List WSym) → labels_in (with_fresh bytes x n t) ≡ labels_in x

kids_labels : (bytes : List ℕ) (kids : List Plain) (n : ℕ) (ts : List (List WSym)) → Each (KeepsLabels bytes) kids → flat_map labels_in (with_fresh_kids bytes kids n ts) ≡ flat_map labels_in kids
kids_labels bytes [] n ts e = refl
kids_labels bytes (x ∷ xs) n ts e =
    let t : List WSym = get_or ts 0 [] in
    let ys : List Plain = with_fresh_kids bytes xs (n + draws_of bytes x) (drop 1 ts) in
    flat_map-cons labels_in (with_fresh bytes x n t) ys
    ∙ ap (λ os. os ++ flat_map labels_in ys) (e.0 n t)
    ∙ ap (λ os. labels_in x ++ os) (kids_labels bytes xs (n + draws_of bytes x) (drop 1 ts) e.1)
    ∙ sym (flat_map-cons labels_in x xs)

pub labels_in-with_fresh : (bytes : List ℕ) (x : Plain) (n : ℕ) (t : List WSym) → labels_in (with_fresh bytes x n t) ≡ labels_in x
labels_in-with_fresh bytes = by_trees (KeepsLabels bytes)
    (λ u n t. ap labels_in (with_fresh-unknown bytes u n t) ∙ labels_in-unknown t ∙ sym (labels_in-unknown u))
    (λ u l s kids h n t.
    ap labels_in (with_fresh-known bytes u l s kids n t)
    ∙ labels_in-known t l (own_values bytes l kids n) (with_fresh_kids bytes kids n (own_targets bytes l kids n))
    ∙ ap (λ os. os ++ (Some l ∷ [])) (kids_labels bytes kids n (own_targets bytes l kids n) h)
    ∙ sym (labels_in-known u l s kids))

pub size_of-with_fresh : (bytes : List ℕ) (x : Plain) (n : ℕ) (t : List WSym) → size_of (with_fresh bytes x n t) ≡ size_of x
size_of-with_fresh bytes x n t =
    sym (length-labels_in (with_fresh bytes x n t)) ∙ ap length (labels_in-with_fresh bytes x n t) ∙ length-labels_in x

abbrev KeepsHeight : List ℕ → Plain → Type 0
KeepsHeight bytes x = (n : ℕ) (t : List WSym) → height_of (with_fresh bytes x n t) ≡ height_of x

kids_heights : (bytes : List ℕ) (kids : List Plain) (n : ℕ) (ts : List (List WSym)) → Each (KeepsHeight bytes) kids → greatest (map height_of (with_fresh_kids bytes kids n ts)) ≡ greatest (map height_of kids)
kids_heights bytes [] n ts e = refl
kids_heights bytes (x ∷ xs) n ts e =
    let one = e.0 n (get_or ts 0 []) in
    let more = kids_heights bytes xs (n + draws_of bytes x) (drop 1 ts) e.1 in
    ap (λ m. max m (greatest (map height_of (with_fresh_kids bytes xs (n + draws_of bytes x) (drop 1 ts))))) one ∙ ap (λ m. max (height_of x) m) more

pub height_of-with_fresh : (bytes : List ℕ) (x : Plain) (n : ℕ) (t : List WSym) → height_of (with_fresh bytes x n t) ≡ height_of x
height_of-with_fresh bytes = by_trees (KeepsHeight bytes)
    (λ u n t. ap height_of (with_fresh-unknown bytes u n t) ∙ height_of-unknown t ∙ sym (height_of-unknown u))
    (λ u l s kids h n t.
    ap height_of (with_fresh-known bytes u l s kids n t)
    ∙ height_of-known t l (own_values bytes l kids n) (with_fresh_kids bytes kids n (own_targets bytes l kids n))
    ∙ ap (λ m. m + 1) (kids_heights bytes kids n (own_targets bytes l kids n) h)
    ∙ sym (height_of-known u l s kids))

-- steps that fit

pub fitting-known : (bytes : List ℕ) (at : ℕ) (t : List WSym) (l : ℕ) (s : Pairs) (kids : List Plain) → IsFitting bytes at (known t l s kids)
    → (may_stand bytes at l ≡ true) × (length kids ≡ length (premises_of bytes l))
unfolding IsFitting
fitting-known bytes at t l s kids h = subst (fitting_layer bytes at) (V.out-roll-Plain (L.Known t l s kids)) h

pub known-fitting : (bytes : List ℕ) (at : ℕ) (t : List WSym) (l : ℕ) (s : Pairs) (kids : List Plain) → may_stand bytes at l ≡ true → length kids ≡ length (premises_of bytes l)
    → IsFitting bytes at (known t l s kids)
unfolding IsFitting
known-fitting bytes at t l s kids h g = subst (fitting_layer bytes at) (sym (V.out-roll-Plain (L.Known t l s kids))) (h, g)

pub unknown-fitting : (bytes : List ℕ) (at : ℕ) (t : List WSym) → IsFitting bytes at (unknown t)
unfolding IsFitting
unknown-fitting bytes at t = subst (fitting_layer bytes at) (sym (V.out-roll-Plain (L.Unknown t))) tt

pub fitting-kids : (bytes : List ℕ) (at : ℕ) (t : List WSym) (l : ℕ) (s : Pairs) (kids : List Plain) → AreFitting bytes at (known t l s kids)
    → Each (AreFitting bytes at) kids × IsFitting bytes at (known t l s kids)
unfolding AreFitting
fitting-kids bytes at t l s kids h = each-known (IsFitting bytes at) t l s kids h

-- a good step fits
pub good-fitting : (c : Setting) (x : Plain) → IsGood c x → IsFitting c.bytes c.at x
good-fitting c = by_trees (λ x. IsGood c x → IsFitting c.bytes c.at x)
    (λ t g. unknown-fitting c.bytes c.at t)
    (λ t l s kids e g. let i = known-good c t l s kids g in
    known-fitting c.bytes c.at t l s kids i.names.stands (sym (length-map kids target_of) ∙ ap length i.children ∙ length-map (premises_of c.bytes l) (applied s)))

each-fitting : (c : Setting) (xs : List Plain) → Each (IsGood c) xs → Each (IsFitting c.bytes c.at) xs
each-fitting c [] g = tt
each-fitting c (x ∷ xs) g = (good-fitting c x g.0, each-fitting c xs g.1)

pub sound-fitting : (c : Setting) (x : Plain) → IsSound c x → AreFitting c.bytes c.at x
unfolding IsSound AreFitting
sound-fitting c x g = each-fitting c (steps_of x) g

-- a tree that fits is sound with fresh work variables

abbrev DrawsSound : Setting → Plain → Type 0
DrawsSound c x = (n : ℕ) (t : List WSym) → AreFitting c.bytes c.at x → IsString c t → 1 ≤ n → n + draws_of c.bytes x ≤ c.next → IsSound c (with_fresh c.bytes x n t)

kids_drawn : (c : Setting) (kids : List Plain) (n : ℕ) (ts : List (List WSym)) → Each (DrawsSound c) kids → Each (AreFitting c.bytes c.at) kids → ByRecursion (IsString c) ts → length kids ≡ length ts
    → 1 ≤ n → n + sum_by (draws_of c.bytes) kids ≤ c.next → Each (IsSound c) (with_fresh_kids c.bytes kids n ts) × (map target_of (with_fresh_kids c.bytes kids n ts) ≡ ts)
kids_drawn c [] n [] e f g same h room = (tt, refl)
kids_drawn c [] n (t ∷ ts) e f g same h room = absurd (omega (arith, same))
kids_drawn c (x ∷ xs) n [] e f g same h room = absurd (omega (arith, same))
kids_drawn c (x ∷ xs) n (t ∷ ts) e f g same h room =
    let all = sum_by-cons (draws_of c.bytes) x xs in
    let more = kids_drawn c xs (n + draws_of c.bytes x) ts e.1 f.1 g.1 (omega (arith, same)) (omega arith) (omega arith) in (
      (e.0 n t f.0 g.0 h (omega arith), more.0),
      ap (λ u. u ∷ map target_of (with_fresh_kids c.bytes xs (n + draws_of c.bytes x) ts)) (target_of-with_fresh c.bytes x n t) ∙ ap (λ us. t ∷ us) more.1,
    )

all_strings : (c : Setting) (s : Pairs) (hs : List (List WSym)) → ByRecursion (λ h. IsString c (applied s h)) hs → ByRecursion (IsString c) (map (applied s) hs)
all_strings c s [] a = tt
all_strings c s (h ∷ hs) a = (a.0, all_strings c s hs a.1)

pub sound-with_fresh : (c : Setting) (x : Plain) (n : ℕ) (t : List WSym) → AreFitting c.bytes c.at x → IsString c t → 1 ≤ n → n + draws_of c.bytes x ≤ c.next → IsSound c (with_fresh c.bytes x n t)
sound-with_fresh c = by_trees (DrawsSound c)
    (λ u n t f g h room. subst (IsSound c) (sym (with_fresh-unknown c.bytes u n t)) (sound-unknown c t g))
    (λ u l s kids e n t f g h room.
    let parts = fitting-kids c.bytes c.at u l s kids f in
    let own = fitting-known c.bytes c.at u l s kids parts.1 in
    let count = draws_of-known c.bytes u l s kids in
    let m : ℕ = own_from c.bytes kids n in
    let sigma : Pairs = own_values c.bytes l kids n in
    let ts : List (List WSym) = own_targets c.bytes l kids n in
    let ys : List Plain = with_fresh_kids c.bytes kids n ts in
    let fits = fits-fresh c m l own.0 (omega arith) (omega arith) in
    let below = kids_drawn c kids n ts e parts.0 (all_strings c sigma (premises_of c.bytes l) (recursion_from_All _ _ fits.premises)) (own.1 ∙ sym (length-map (premises_of c.bytes l) (applied sigma))) h (omega arith) in
    let is : IsInstance c t l sigma (map target_of ys) = record { target = g; names = fits.names; children = below.1 } in
    subst (IsSound c) (sym (with_fresh-known c.bytes u l s kids n t)) (sound-known c t l sigma ys below.0 is))

-- a valid proof in which a part has fresh work variables is valid
pub valid-with_fresh : (bytes : List ℕ) (at : ℕ) (goal : List WSym) (p : Proof) (k : ℕ) → IsValid bytes at goal p → 1 ≤ k → k ≤ size_of p.plain
    → p.next + draws_of bytes (step_at p.plain k) ≤ most_works + 1 → IsValid bytes at goal (with_fresh_in bytes p k)
valid-with_fresh bytes at goal p k v h g room =
    let old : Setting = setting_of bytes at p in
    let y : Plain = step_at p.plain k in
    let t : List WSym = target_of y in
    let n : ℕ = p.next + draws_of bytes y in
    let c : Setting = at_next old n in
    let first = v.counter.0 in
    let all : IsSound c p.plain = sound-raised old n (omega arith) p.plain v.steps in
    let fits : AreFitting bytes at y = sound-fitting old y (sound-part old p.plain k h g v.steps) in
    let new : Plain = with_fresh bytes y p.next t in
    let kept = put-kept c new (sound-with_fresh c y p.next t fits (target-good c y (step-good c p.plain k h g all)) first (omega arith)) p.plain k h g all (target_of-with_fresh bytes y p.next t) in
    record {
      goal_is = kept.1 ∙ v.goal_is;
      steps = kept.0;
      counter = (omega arith, room);
      few = let few = v.few in omega (arith, size-put new p.plain k h g, size_of-with_fresh bytes y p.next t);
      low = let low = v.low in omega (arith, height-put-le new p.plain k h g, height_of-with_fresh bytes y p.next t, height-part p.plain k h g);
    }

-- a valid proof stays valid where a step is made known by fresh work variables
pub valid-placed_fresh : (bytes : List ℕ) (at : ℕ) (goal : List WSym) (p : Proof) (k id : ℕ) → IsValid bytes at goal p → 1 ≤ k → k ≤ size_of p.plain → may_stand bytes at id ≡ true
    → p.next + length (variables_for bytes id) ≤ most_works + 1 → size_of (placed_fresh bytes p k id).plain ≤ most_steps → height_of (placed_fresh bytes p k id).plain ≤ most_levels
    → IsValid bytes at goal (placed_fresh bytes p k id)
valid-placed_fresh bytes at goal p k id v h g stands room few low =
    let n : ℕ = length (variables_for bytes id) in
    let q : Proof = raised n p in
    let first = v.counter.0 in
    valid-placed bytes at goal q k id (fresh_for bytes p.next id) (valid-raised bytes at goal p n v room) h g (fits-fresh (setting_of bytes at q) p.next id stands first (omega arith)) few low
