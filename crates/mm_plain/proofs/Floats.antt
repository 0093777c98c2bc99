-- A tree in which the children for floating hypotheses are unknown: its targets, steps and levels, and that it is sound.
use Rattle.std.proofs.Common.{◌≡◌, ℕ, ◌+◌, ◌≤◌, max, Bool, true, false, List, [], ◌∷◌, map, refl, sym, ◌∙◌, ap, subst, arith, if◌then◌else◌}
use Rattle.std.specs.List.{sum_by}
use Rattle.std.proofs.lemmas.List.Sums.{sum_by-cons}
use Rattle.mm_subst.specs.declared.symbol.WSym.{WSym}
use Rattle.mm_subst.specs.Substitutions.{Pairs}
use Rattle.mm_plain.specs.declared.plain.Plain.{Plain}
use Rattle.mm_plain.specs.declared.plain.Plain.TheOpen as L
use Rattle.mm_plain.specs.declared.plain.Plain.TheFolds as F
use Rattle.mm_plain.specs.Floats.{is_float, without_floats, bared_step, bared, bared_in}
use Rattle.mm_plain.specs.Premises.{premise_ids}
use Rattle.mm_plain.specs.Shape.{Each, Proof, unknown, known, size_of, height_of, greatest, target_of}
use Rattle.mm_plain.specs.Valid.{Setting, setting_of, IsString, IsInstance, IsGood, IsSound, IsValid}
use Rattle.mm_plain.proofs.Equations.{by_trees, size_of-unknown, size_of-known, size_of-pos, height_of-unknown, height_of-known, target_of-unknown, target_of-known}
use Rattle.mm_plain.proofs.Kept.{sound-unknown, sound-known, kids-sound, step-good, target-good}
use Rattle.mm_plain.proofs.Sizes.{height_of-pos}
use Rattle.mm_plain.proofs.Trees.{at-leaf}

pub bared-unknown : (bytes : List ℕ) (t : List WSym) → bared bytes (unknown t) ≡ unknown t
unfolding bared
bared-unknown bytes t = F.fold-roll-Plain Plain (bared_step bytes) (L.Unknown t)

pub bared-known : (bytes : List ℕ) (t : List WSym) (l : ℕ) (s : Pairs) (kids : List Plain) → bared bytes (known t l s kids) ≡ known t l s (without_floats bytes (premise_ids bytes l) (map (bared bytes) kids))
unfolding bared
bared-known bytes t l s kids = F.fold-roll-Plain Plain (bared_step bytes) (L.Known t l s kids)

pub target_of-bared : (bytes : List ℕ) (x : Plain) → target_of (bared bytes x) ≡ target_of x
target_of-bared bytes = by_trees (λ x. target_of (bared bytes x) ≡ target_of x)
    (λ t. ap target_of (bared-unknown bytes t))
    (λ t l s kids h. ap target_of (bared-known bytes t l s kids) ∙ target_of-known t l s (without_floats bytes (premise_ids bytes l) (map (bared bytes) kids)) ∙ sym (target_of-known t l s kids))

-- the target of a sound tree is a string
pub target-sound : (c : Setting) (x : Plain) → IsSound c x → IsString c (target_of x)
target-sound c = by_trees (λ x. IsSound c x → IsString c (target_of x))
    (λ t h. target-good c (unknown t) (subst (λ y. IsGood c y) (at-leaf t 1 refl) (step-good c (unknown t) 1 (omega arith) (omega (arith, size_of-unknown t)) h)))
    (λ t l s kids e h. subst (IsString c) (sym (target_of-known t l s kids)) (kids-sound c t l s kids h).1.target)

targets-bared : (bytes ids : List ℕ) (kids : List Plain) → map target_of (without_floats bytes ids (map (bared bytes) kids)) ≡ map target_of kids
targets-bared bytes [] [] = refl
targets-bared bytes [] (x ∷ xs) = ap (λ t. t ∷ map target_of (map (bared bytes) xs)) (target_of-bared bytes x) ∙ ap (λ ts. target_of x ∷ ts) (targets-bared bytes [] xs)
targets-bared bytes (id ∷ ids) [] = refl
targets-bared bytes (id ∷ ids) (x ∷ xs) = ap (λ t. t ∷ map target_of (without_floats bytes ids (map (bared bytes) xs))) (go (is_float bytes id)) ∙ ap (λ ts. target_of x ∷ ts) (targets-bared bytes ids xs)
  where
    go : (b : Bool) → target_of (if b then unknown (target_of (bared bytes x)) else bared bytes x) ≡ target_of x
    go true = target_of-unknown (target_of (bared bytes x)) ∙ target_of-bared bytes x
    go false = target_of-bared bytes x

sound-place : (c : Setting) (b : Bool) (y : Plain) → IsSound c y → IsSound c (if b then unknown (target_of y) else y)
sound-place c true y h = sound-unknown c (target_of y) (target-sound c y h)
sound-place c false y h = h

abbrev KeepsSound : Setting → Plain → Type 0
KeepsSound c x = IsSound c x → IsSound c (bared c.bytes x)

kids-bared : (c : Setting) (ids : List ℕ) (kids : List Plain) → Each (KeepsSound c) kids → Each (IsSound c) kids → Each (IsSound c) (without_floats c.bytes ids (map (bared c.bytes) kids))
kids-bared c [] [] e h = tt
kids-bared c [] (x ∷ xs) e h = (e.0 h.0, kids-bared c [] xs e.1 h.1)
kids-bared c (id ∷ ids) [] e h = tt
kids-bared c (id ∷ ids) (x ∷ xs) e h = (sound-place c (is_float c.bytes id) (bared c.bytes x) (e.0 h.0), kids-bared c ids xs e.1 h.1)

pub sound-bared : (c : Setting) (x : Plain) → KeepsSound c x
sound-bared c = by_trees (KeepsSound c)
    (λ t h. subst (IsSound c) (sym (bared-unknown c.bytes t)) h)
    (λ t l s kids e h. let w = kids-sound c t l s kids h in
    subst (IsSound c) (sym (bared-known c.bytes t l s kids)) (sound-known c t l s (without_floats c.bytes (premise_ids c.bytes l) (map (bared c.bytes) kids))
    (kids-bared c (premise_ids c.bytes l) kids e w.0) (subst (IsInstance c t l s) (sym (targets-bared c.bytes (premise_ids c.bytes l) kids)) w.1)))

-- no more steps and levels

size-place : (b : Bool) (y : Plain) → size_of (if b then unknown (target_of y) else y) ≤ size_of y
size-place true y = omega (arith, size_of-unknown (target_of y), size_of-pos y)
size-place false y = omega arith

height-place : (b : Bool) (y : Plain) → height_of (if b then unknown (target_of y) else y) ≤ height_of y
height-place true y = omega (arith, height_of-unknown (target_of y), height_of-pos y)
height-place false y = omega arith

sizes-bared : (bytes ids : List ℕ) (kids : List Plain) → Each (λ x. size_of (bared bytes x) ≤ size_of x) kids → sum_by size_of (without_floats bytes ids (map (bared bytes) kids)) ≤ sum_by size_of kids
sizes-bared bytes [] [] e = omega arith
sizes-bared bytes [] (x ∷ xs) e = let a = e.0 in omega (arith, sizes-bared bytes [] xs e.1, sum_by-cons size_of (bared bytes x) (map (bared bytes) xs), sum_by-cons size_of x xs)
sizes-bared bytes (id ∷ ids) [] e = omega arith
sizes-bared bytes (id ∷ ids) (x ∷ xs) e =
    let a = e.0 in
    omega (
      arith,
      sizes-bared bytes ids xs e.1,
      size-place (is_float bytes id) (bared bytes x),
      sum_by-cons size_of (if is_float bytes id then unknown (target_of (bared bytes x)) else bared bytes x) (without_floats bytes ids (map (bared bytes) xs)),
      sum_by-cons size_of x xs,
    )

pub size-bared : (bytes : List ℕ) (x : Plain) → size_of (bared bytes x) ≤ size_of x
size-bared bytes = by_trees (λ x. size_of (bared bytes x) ≤ size_of x)
    (λ t. let a = ap size_of (bared-unknown bytes t) in omega arith)
    (λ t l s kids e. let a = ap size_of (bared-known bytes t l s kids) in
    omega (arith, sizes-bared bytes (premise_ids bytes l) kids e, size_of-known t l s kids, size_of-known t l s (without_floats bytes (premise_ids bytes l) (map (bared bytes) kids))))

heights-bared : (bytes ids : List ℕ) (kids : List Plain) → Each (λ x. height_of (bared bytes x) ≤ height_of x) kids → greatest (map height_of (without_floats bytes ids (map (bared bytes) kids))) ≤ greatest (map height_of kids)
heights-bared bytes [] [] e = omega arith
heights-bared bytes [] (x ∷ xs) e = let a = e.0 in omega (arith, heights-bared bytes [] xs e.1)
heights-bared bytes (id ∷ ids) [] e = omega arith
heights-bared bytes (id ∷ ids) (x ∷ xs) e = let a = e.0 in omega (arith, heights-bared bytes ids xs e.1, height-place (is_float bytes id) (bared bytes x))

pub height-bared : (bytes : List ℕ) (x : Plain) → height_of (bared bytes x) ≤ height_of x
height-bared bytes = by_trees (λ x. height_of (bared bytes x) ≤ height_of x)
    (λ t. let a = ap height_of (bared-unknown bytes t) in omega arith)
    (λ t l s kids e. let a = ap height_of (bared-known bytes t l s kids) in
    omega (arith, heights-bared bytes (premise_ids bytes l) kids e, height_of-known t l s kids, height_of-known t l s (without_floats bytes (premise_ids bytes l) (map (bared bytes) kids))))

pub valid-bared : (bytes : List ℕ) (at : ℕ) (goal : List WSym) (p : Proof) → IsValid bytes at goal p → IsValid bytes at goal (bared_in bytes p)
valid-bared bytes at goal p v =
    let few = v.few in
    let low = v.low in
    record {
      goal_is = target_of-bared bytes p.plain ∙ v.goal_is;
      steps = sound-bared (setting_of bytes at p) p.plain v.steps;
      counter = v.counter;
      few = omega (arith, size-bared bytes p.plain);
      low = omega (arith, height-bared bytes p.plain);
    }
