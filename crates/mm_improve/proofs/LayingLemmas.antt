-- Trees that are laid one behind the other, and a step over them.
use Rattle.std.proofs.Common.{◌≡◌, ◌≤◌, ◌<◌, ◌+◌, ◌-◌, ℕ, zero, suc, List, [], ◌∷◌, ◌++◌, Result, Ok, Err, map, take, drop, length, get_or, max, refl, sym, ◌∙◌, ap, arith, subst, append_assoc, append-nil, length-append}
use Rattle.std.specs.List.{sum_by}
use Rattle.std.proofs.lemmas.List.{length-map, map-append, take-map, get_or-map, take_all, take_more}
use Rattle.std.proofs.lemmas.List.Sums.{sum_by-append, sum_by-take-le, sum_by_push}
use Rattle.std.proofs.Math.Seq.{take-append_seam, drop-append_seam}
use Rattle.mm_subst.specs.declared.symbol.WSym.{WSym}
use Rattle.mm_subst.specs.Substitutions.{Pairs}
use Rattle.mm_plain.specs.declared.plain.Plain.{Plain}
use Rattle.mm_plain.specs.Shape.{known, size_of, height_of, greatest}
use Rattle.mm_plain.specs.Valid.{most_steps}
use Rattle.mm_plain.proofs.Equations.{size_of-known, height_of-known}
use Rattle.mm_tree.specs.Plans.{IsPlan, grove_of}
use Rattle.mm_tree.specs.declared.plan.Plan.{Plan}
use Rattle.mm_improve.specs.declared.fault.ImproveFault.{ImproveFault}
use Rattle.mm_improve.specs.declared.fault.ImproveFault.TheVariants.{TooManySteps, TooDeep, Memory}
use Rattle.mm_chart.specs.declared.table.Part.{Part}
use Rattle.mm_improve.specs.Laying.{IsLaid, LaysTree, steps_in}
use Rattle.mm_improve.specs.Steps.{IsPushed, Pushes}

-- trees of no more than some levels stand behind the others
pub record AreLaid (old : Plan) (xs : List Plain) (left : ℕ) (new : Plan) : Type 0 where
  pub plan : IsPlan new
  pub standing : (grove_of new).standing ≡ (grove_of old).standing ++ xs
  pub low : greatest (map height_of xs) ≤ left

pub laid_none : (p : Plan) (left : ℕ) → IsPlan p → AreLaid p [] left p
laid_none p left h = record { plan = h; standing = sym (append-nil (grove_of p).standing); low = omega arith }

greatest_push : (xs : List Plain) (x : Plain) (n : ℕ) → greatest (map height_of xs) ≤ n → height_of x ≤ n → greatest (map height_of (xs ++ x ∷ [])) ≤ n
greatest_push [] x n h l = omega (arith, l)
greatest_push (y ∷ xs) x n h l =
    let i = greatest_push xs x n (omega (arith, h)) l in
    omega (arith, h, i)

pub laid_more : (old mid new : Plan) (xs : List Plain) (x : Plain) (left : ℕ) → AreLaid old xs left mid → IsLaid mid x left new → AreLaid old (xs ++ x ∷ []) left new
laid_more old mid new xs x left h k = record {
  plan = k.plan;
  standing = k.standing ∙ ap (λ (ys : List Plain). ys ++ x ∷ []) h.standing ∙ append_assoc (grove_of old).standing xs (x ∷ []);
  low = greatest_push xs x left h.low k.low;
}

-- the sum and the height of the trees of some parts
height-at : (xs : List Plain) (i : ℕ) (d : Plain) → i < length xs → height_of (get_or xs i d) ≤ greatest (map height_of xs)
height-at [] i d l = absurd (omega arith)
height-at (x ∷ xs) zero d l = omega arith
height-at (x ∷ xs) (suc i) d l = let h = height-at xs i d (omega arith) in omega (arith, h)

steps-laid : (old new : Plan) (xs : List Plain) (left : ℕ) → AreLaid old xs left new → steps_in new ≡ steps_in old + sum_by size_of xs
steps-laid old new xs left h = ap (sum_by size_of) h.standing ∙ sum_by-append size_of (grove_of old).standing xs

-- where one of them is not laid, the step over all isn't either
pub not_laid : (A B : Type 0) (old mid new : Plan) (target : List WSym) (id : ℕ) (sigma : Pairs) (xs : List Plain) (i k left : ℕ) (d : Plain) (f : ImproveFault) → i < length xs → AreLaid old (take i xs) k mid → left ≡ suc k →
    LaysTree {A = A} mid (get_or xs i d) k (Err f) new → LaysTree {A = B} old (known target id sigma xs) left (Err f) new
not_laid A B old mid new target id sigma xs i k left d TooManySteps l h e f =
    let a = steps-laid old mid (take i xs) k h in
    let b = sum_by_push size_of (take i xs) (get_or xs i d) in
    let g = ap (sum_by size_of) (take_more xs i d l) in
    let m = sum_by-take-le size_of xs (i + 1) in
    let n = size_of-known target id sigma xs in
    omega (arith, a, b, g, m, n, f)
not_laid A B old mid new target id sigma xs i k left d TooDeep l h e f =
    let a = height-at xs i d l in
    let n = height_of-known target id sigma xs in
    omega (arith, a, n, e, f)
not_laid A B old mid new target id sigma xs i k left d Memory l h e f = tt

pub enough : (old mid : Plan) (xs : List Plain) (k : ℕ) → AreLaid old xs k mid → length xs ≤ length (grove_of mid).standing
enough old mid xs k h = omega (arith, ap length h.standing, length-append (grove_of old).standing xs)

pub over_all : {A : Type 0} (old mid new : Plan) (target : List WSym) (id : ℕ) (sigma : Pairs) (xs : List Plain) (k left takes : ℕ) (result : Result A ImproveFault) → AreLaid old xs k mid → left ≡ suc k → takes ≡ length xs →
    Pushes mid target id sigma takes result new → LaysTree old (known target id sigma xs) left result new
over_all old mid new target id sigma xs k left takes (Ok a) h e t p =
    let before = (grove_of old).standing in
    let now = (grove_of mid).standing in
    let n = length now - takes in
    let stay : n ≡ length before = omega (arith, t, ap length h.standing, length-append before xs) in
    let front : take n now ≡ before = ap (take n) h.standing ∙ ap (λ (m : ℕ). take m (before ++ xs)) stay ∙ take-append_seam before xs in
    let back : drop n now ≡ xs = ap (drop n) h.standing ∙ ap (λ (m : ℕ). drop m (before ++ xs)) stay ∙ drop-append_seam before xs in
    record {
      plan = p.plan;
      standing = p.standing ∙ ap (λ (ys : List Plain). ys ++ known target id sigma (drop n now) ∷ []) front ∙ ap (λ (ys : List Plain). before ++ known target id sigma ys ∷ []) back;
      low = let low = h.low in omega (arith, low, e, height_of-known target id sigma xs);
    }
over_all old mid new target id sigma xs k left takes (Err TooManySteps) h e t p =
    omega (arith, p, steps-laid old mid xs k h, size_of-known target id sigma xs)
over_all old mid new target id sigma xs k left takes (Err TooDeep) h e t p = absurd p
over_all old mid new target id sigma xs k left takes (Err Memory) h e t p = tt

-- ## The trees of parts

pub one_laid : (T : Part → Plain) (old mid new : Plan) (kids : List Part) (i k : ℕ) (d : Part) → i < length kids → AreLaid old (map T (take i kids)) k mid → IsLaid mid (T (get_or kids i d)) k new → AreLaid old (map T (take (i + 1) kids)) k new
one_laid T old mid new kids i k d l h g =
    subst (λ (xs : List Plain). AreLaid old xs k new) (sym (ap (map T) (take_more kids i d l) ∙ map-append T (take i kids) (get_or kids i d ∷ [])))
    (laid_more old mid new (map T (take i kids)) (T (get_or kids i d)) k h g)

pub kid_fault : (A B : Type 0) (T : Part → Plain) (old mid new : Plan) (x : Plain) (target : List WSym) (id : ℕ) (sigma : Pairs) (kids : List Part) (i k left : ℕ) (d : Part) (f : ImproveFault) → x ≡ known target id sigma (map T kids) → i < length kids →
    AreLaid old (map T (take i kids)) k mid → left ≡ suc k → LaysTree {A = A} mid (T (get_or kids i d)) k (Err f) new → LaysTree {A = B} old x left (Err f) new
kid_fault A B T old mid new x target id sigma kids i k left d f is l h e g =
    subst (λ (y : Plain). LaysTree {A = B} old y left (Err f) new) (sym is)
    (not_laid A B old mid new target id sigma (map T kids) i k left (T d) f (omega (arith, l, length-map kids T))
    (subst (λ (xs : List Plain). AreLaid old xs k mid) (sym (take-map T i kids)) h) e
    (subst (λ (y : Plain). LaysTree {A = A} mid y k (Err f) new) (sym (get_or-map T kids i d (T d) l)) g))

pub all_kids : (T : Part → Plain) (old mid : Plan) (kids : List Part) (i k : ℕ) → length kids ≤ i → AreLaid old (map T (take i kids)) k mid → AreLaid old (map T kids) k mid
all_kids T old mid kids i k l h = subst (λ (ps : List Part). AreLaid old (map T ps) k mid) (take_all i kids l) h
