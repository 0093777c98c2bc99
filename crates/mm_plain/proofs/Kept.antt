-- A proof stays valid where an unknown step is made known.
use Rattle.std.proofs.Common.{zero, suc, ◌≡◌, ℕ, ◌+◌, ◌-◌, ◌≤◌, ◌<◌, List, [], ◌∷◌, ◌++◌, map, length, get_or, refl, sym, ◌∙◌, ap, subst, inl, inr, arith, add-one}
use Rattle.std.specs.List.{flat_map, sum_by, AllByRecursion as ByRecursion}
use Rattle.std.proofs.lemmas.Bool.{cases_lt}
use Rattle.std.proofs.lemmas.List.Sums.{sum_by-cons}
use Rattle.std.proofs.lemmas.List.Concat.{flat_map-cons}
use Rattle.std.proofs.lemmas.List.Elements.{recursion_from_All}
use Rattle.mm_subst.specs.declared.symbol.WSym.{WSym}
use Rattle.mm_subst.specs.Substitutions.{Pairs, applied}
use Rattle.mm_plain.specs.declared.plain.Plain.{Plain}
use Rattle.mm_plain.specs.declared.plain.Plain.TheOpen as L
use Rattle.mm_plain.specs.declared.plain.Plain.TheViews as V
use Rattle.mm_plain.specs.Shape.{Each, Proof, unknown, known, unknowns, placed, size_of, height_of, steps_of, put, put_kids, seat, step_at, target_of}
use Rattle.mm_plain.specs.Premises.{premises_of}
use Rattle.mm_plain.specs.Valid.{Setting, setting_of, first_setting, IsString, IsInstance, Fits, good_layer, IsGood, IsSound, IsValid, placed_in, most_steps, most_levels}
use Rattle.mm_plain.proofs.Equations.{by_trees, size_of-known, size_of-unknown, height_of-unknown, put-unknown, steps_of-known, steps_of-unknown, length-steps_of, target_of-known, target_of-unknown}
use Rattle.mm_plain.proofs.Trees.{seat-in, at-kid, at-root, at-leaf, put-in, put-root, put_kids-here, put_kids-later, seat-here, seat-later}

pub each-join : (P : Plain → Type 0) (xs ys : List Plain) → Each P xs → Each P ys → Each P (xs ++ ys)
each-join P [] ys a b = b
each-join P (x ∷ xs) ys a b = (a.0, each-join P xs ys a.1 b)

each-left : (P : Plain → Type 0) (xs ys : List Plain) → Each P (xs ++ ys) → Each P xs
each-left P [] ys a = tt
each-left P (x ∷ xs) ys a = (a.0, each-left P xs ys a.1)

each-right : (P : Plain → Type 0) (xs ys : List Plain) → Each P (xs ++ ys) → Each P ys
each-right P [] ys a = a
each-right P (x ∷ xs) ys a = each-right P xs ys a.1

-- an unknown step is good where its target is a string
pub good-unknown : (c : Setting) (t : List WSym) → IsString c t → IsGood c (unknown t)
unfolding IsGood
good-unknown c t h = subst (good_layer c) (sym (V.out-roll-Plain (L.Unknown t))) h

pub unknown-good : (c : Setting) (t : List WSym) → IsGood c (unknown t) → IsString c t
unfolding IsGood
unknown-good c t g = subst (good_layer c) (V.out-roll-Plain (L.Unknown t)) g

-- and a known one where it is an instance of what it names
pub good-known : (c : Setting) (t : List WSym) (l : ℕ) (s : Pairs) (kids : List Plain) → IsInstance c t l s (map target_of kids) → IsGood c (known t l s kids)
unfolding IsGood
good-known c t l s kids h = subst (good_layer c) (sym (V.out-roll-Plain (L.Known t l s kids))) h

pub known-good : (c : Setting) (t : List WSym) (l : ℕ) (s : Pairs) (kids : List Plain) → IsGood c (known t l s kids) → IsInstance c t l s (map target_of kids)
unfolding IsGood
known-good c t l s kids g = subst (good_layer c) (V.out-roll-Plain (L.Known t l s kids)) g

-- the target of a good step is a string
pub target-good : (c : Setting) (x : Plain) → IsGood c x → IsString c (target_of x)
target-good c = by_trees (λ x. IsGood c x → IsString c (target_of x))
    (λ t g. subst (IsString c) (sym (target_of-unknown t)) (unknown-good c t g))
    (λ t l s kids h g. subst (IsString c) (sym (target_of-known t l s kids)) (known-good c t l s kids g).target)

pub sound-unknown : (c : Setting) (t : List WSym) → IsString c t → IsSound c (unknown t)
unfolding IsSound
sound-unknown c t h = subst (Each (IsGood c)) (sym (steps_of-unknown t)) (good-unknown c t h, tt)

all-sound : (c : Setting) (kids : List Plain) → Each (IsSound c) kids → Each (IsGood c) (flat_map steps_of kids)
unfolding IsSound
all-sound c [] e = tt
all-sound c (x ∷ xs) e = subst (Each (IsGood c)) (sym (flat_map-cons steps_of x xs)) (each-join (IsGood c) (steps_of x) (flat_map steps_of xs) e.0 (all-sound c xs e.1))

each-sound : (c : Setting) (kids : List Plain) → Each (IsGood c) (flat_map steps_of kids) → Each (IsSound c) kids
unfolding IsSound
each-sound c [] e = tt
each-sound c (x ∷ xs) e = let f = subst (Each (IsGood c)) (flat_map-cons steps_of x xs) e in
    (each-left (IsGood c) (steps_of x) (flat_map steps_of xs) f, each-sound c xs (each-right (IsGood c) (steps_of x) (flat_map steps_of xs) f))

pub sound-known : (c : Setting) (t : List WSym) (l : ℕ) (s : Pairs) (kids : List Plain) → Each (IsSound c) kids → IsInstance c t l s (map target_of kids) → IsSound c (known t l s kids)
unfolding IsSound
sound-known c t l s kids e f = subst (Each (IsGood c)) (sym (steps_of-known t l s kids))
    (each-join (IsGood c) (flat_map steps_of kids) (known t l s kids ∷ []) (all-sound c kids e) (good-known c t l s kids f, tt))

pub kids-sound : (c : Setting) (t : List WSym) (l : ℕ) (s : Pairs) (kids : List Plain) → IsSound c (known t l s kids) → Each (IsSound c) kids × IsInstance c t l s (map target_of kids)
unfolding IsSound
kids-sound c t l s kids v = let w = subst (Each (IsGood c)) (steps_of-known t l s kids) v in (
  each-sound c kids (each-left (IsGood c) (flat_map steps_of kids) (known t l s kids ∷ []) w),
  known-good c t l s kids (each-right (IsGood c) (flat_map steps_of kids) (known t l s kids ∷ []) w).0,
)

abbrev Keeps : Setting → Plain → Plain → Type 0
Keeps c new x = (k : ℕ) → 1 ≤ k → k ≤ size_of x → IsSound c x → target_of new ≡ target_of (step_at x k) → IsSound c (put x k new) × (target_of (put x k new) ≡ target_of x)

kids-kept : (c : Setting) (new : Plain) → IsSound c new → (kids : List Plain) (k : ℕ) (d : Plain) → Each (Keeps c new) kids → 1 ≤ k → k ≤ sum_by size_of kids → Each (IsSound c) kids
    → target_of new ≡ target_of (step_at (get_or kids (seat kids k).0 d) (seat kids k).1)
    → Each (IsSound c) (put_kids kids k new) × (map target_of (put_kids kids k new) ≡ map target_of kids)
kids-kept c new v [] k d e h g w f = absurd (omega arith)
kids-kept c new v (x ∷ xs) k d e h g w f = elim (cases_lt (size_of x) k) [
  | inr here ↦
      let q = ap (λ (p : ℕ × ℕ). target_of (step_at (get_or (x ∷ xs) p.0 d) p.1)) (seat-here x xs k here) in
      let i = e.0 k h here w.0 (f ∙ q) in (
        subst (Each (IsSound c)) (sym (put_kids-here x xs k new here)) (i.0, w.1),
        ap (map target_of) (put_kids-here x xs k new here) ∙ ap (λ (n : List WSym). n ∷ map target_of xs) i.1,
      )
  | inl later ↦
      let q = ap (λ (p : ℕ × ℕ). target_of (step_at (get_or (x ∷ xs) p.0 d) p.1)) (seat-later x xs k later) in
      let q2 : target_of (step_at (get_or (x ∷ xs) ((seat xs (k - size_of x)).0 + 1) d) (seat xs (k - size_of x)).1) ≡ target_of (step_at (get_or xs (seat xs (k - size_of x)).0 d) (seat xs (k - size_of x)).1) = rw add-one refl in
      let i = kids-kept c new v xs (k - size_of x) d e.1 (omega arith) (omega (arith, sum_by-cons size_of x xs)) w.1 (f ∙ q ∙ q2) in (
        subst (Each (IsSound c)) (sym (put_kids-later x xs k new later)) (w.0, i.0),
        ap (map target_of) (put_kids-later x xs k new later) ∙ ap (λ (n : List (List WSym)). target_of x ∷ n) i.1,
      )
]

-- a sound tree stays sound where a step is replaced by a sound tree with the same target
pub put-kept : (c : Setting) (new : Plain) → IsSound c new → (x : Plain) → Keeps c new x
put-kept c new v = by_trees (Keeps c new)
    (λ t k h g w f. let z : k ≡ 1 = omega (arith, size_of-unknown t) in
    (subst (IsSound c) (sym (put-unknown t k new)) v, ap target_of (put-unknown t k new) ∙ f ∙ ap target_of (at-leaf t k z)))
    (λ t l s kids e k h g w f. elim (cases_lt (sum_by size_of kids) k) [
      | inr in_kids ↦
          let q = seat-in kids k (unknown []) h in_kids in
          let u = kids-sound c t l s kids w in
          let i = kids-kept c new v kids k (unknown []) e h in_kids u.0 (f ∙ ap target_of (at-kid t l s kids k (seat kids k).0 (seat kids k).1 (unknown []) q h in_kids)) in (
            subst (IsSound c) (sym (put-in t l s kids k new in_kids)) (sound-known c t l s (put_kids kids k new) i.0 (subst (IsInstance c t l s) (sym i.1) u.1)),
            ap target_of (put-in t l s kids k new in_kids) ∙ target_of-known t l s (put_kids kids k new) ∙ sym (target_of-known t l s kids),
          )
      | inl root ↦ let z : k ≡ sum_by size_of kids + 1 = omega (arith, size_of-known t l s kids) in
          (subst (IsSound c) (sym (put-root t l s kids k new z)) v, ap target_of (put-root t l s kids k new z) ∙ f ∙ ap target_of (at-root t l s kids k z))
    ])

each-get : (P : Plain → Type 0) (xs : List Plain) (i : ℕ) (d : Plain) → i < length xs → Each P xs → P (get_or xs i d)
each-get P [] i d h e = absurd (omega arith)
each-get P (x ∷ xs) zero d h e = e.0
each-get P (x ∷ xs) (suc i) d h e = each-get P xs i d (omega arith) e.1

-- each step of a sound tree is good
pub step-good : (c : Setting) (x : Plain) (k : ℕ) → 1 ≤ k → k ≤ size_of x → IsSound c x → IsGood c (step_at x k)
unfolding IsSound
step-good c x k h g v = each-get (IsGood c) (steps_of x) (k - 1) x (omega (arith, length-steps_of x)) v

all-unknown : (c : Setting) (sigma : Pairs) (hs : List (List WSym)) → ByRecursion (λ h. IsString c (applied sigma h)) hs → Each (IsSound c) (unknowns sigma hs)
all-unknown c sigma [] a = tt
all-unknown c sigma (h ∷ hs) a = (sound-unknown c (applied sigma h) a.0, all-unknown c sigma hs a.1)

pub targets-unknowns : (sigma : Pairs) (hs : List (List WSym)) → map target_of (unknowns sigma hs) ≡ map (applied sigma) hs
targets-unknowns sigma [] = refl
targets-unknowns sigma (h ∷ hs) = ap (λ (n : List WSym). n ∷ map target_of (unknowns sigma hs)) (target_of-unknown (applied sigma h))
    ∙ ap (λ (n : List (List WSym)). applied sigma h ∷ n) (targets-unknowns sigma hs)

pub placed-kept : (c : Setting) (x : Plain) (k id : ℕ) (sigma : Pairs) → 1 ≤ k → k ≤ size_of x → Fits c id sigma → IsSound c x
    → IsSound c (placed x k id sigma (premises_of c.bytes id)) × (target_of (placed x k id sigma (premises_of c.bytes id)) ≡ target_of x)
placed-kept c x k id sigma h g fits v =
    let t = target_of (step_at x k) in
    let kids = unknowns sigma (premises_of c.bytes id) in
    let is : IsInstance c t id sigma (map target_of kids) =
    record { target = target-good c (step_at x k) (step-good c x k h g v); names = fits.names; children = targets-unknowns sigma (premises_of c.bytes id) } in
    put-kept c (known t id sigma kids) (sound-known c t id sigma kids (all-unknown c sigma (premises_of c.bytes id) (recursion_from_All _ _ fits.premises)) is)
    x k h g v (target_of-known t id sigma kids)

-- a valid proof stays valid where a step is made known by what fits
pub valid-placed : (bytes : List ℕ) (at : ℕ) (goal : List WSym) (p : Proof) (k id : ℕ) (sigma : Pairs) → IsValid bytes at goal p → 1 ≤ k → k ≤ size_of p.plain → Fits (setting_of bytes at p) id sigma
    → size_of (placed_in bytes p k id sigma).plain ≤ most_steps → height_of (placed_in bytes p k id sigma).plain ≤ most_levels → IsValid bytes at goal (placed_in bytes p k id sigma)
valid-placed bytes at goal p k id sigma v h g fits few low =
    let kept = placed-kept (setting_of bytes at p) p.plain k id sigma h g fits v.steps in
    record { goal_is = kept.1 ∙ v.goal_is; steps = kept.0; counter = v.counter; few = few; low = low }

-- a proof of one unknown step is valid
pub valid-start : (bytes : List ℕ) (at : ℕ) (goal : List WSym) → IsString (first_setting bytes at) goal → IsValid bytes at goal (record { plain = unknown goal; next = 1 })
valid-start bytes at goal h = record {
  goal_is = target_of-unknown goal;
  steps = sound-unknown (first_setting bytes at) goal h;
  counter = (omega arith, omega arith);
  few = omega (arith, size_of-unknown goal);
  low = omega (arith, height_of-unknown goal);
}
