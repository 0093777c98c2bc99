-- The proofs of the goals of all hypotheses, counted and laid out one after another.
use Rattle.std.proofs.Common.{◌≡◌, ◌≤◌, ◌<◌, ◌+◌, ◌-◌, ℕ, zero, suc, Bool, true, false, List, [], ◌∷◌, ◌++◌, Option, None, Some, Result, Ok, Err, map, length, take, drop, get_or, max, refl, sym, ◌∙◌, ap, subst, arith, append_assoc}
use Rattle.std.specs.List.{sum_by}
use Rattle.std.proofs.Math.Seq.{drop-append_seam, take-append_seam}
use Rattle.std.proofs.lemmas.Bool.{false≢true, true≢false}
use Rattle.std.proofs.lemmas.List.{length-append, length-map, take_more, take_all}
use Rattle.std.proofs.lemmas.List.Sums.{sum_by-append, sum_by-take-le, sum_by_more_le, sum_by-cons}
use Rattle.mm_subst.specs.declared.symbol.WSym.{WSym}
use Rattle.mm_subst.specs.Substitutions.{Pairs}
use Rattle.mm_plain.specs.declared.plain.Plain.{Plain}
use Rattle.mm_plain.specs.Premises.{premise_ids}
use Rattle.mm_plain.specs.Shape.{greatest, height_of, known, size_of}
use Rattle.mm_plain.specs.Valid.{most_steps}
use Rattle.mm_plain.proofs.Equations.{height_of-known, size_of-known}
use Rattle.mm_tree.specs.Plans.{AreFit, Grove, IsPlan, grove_of, grown, no_grove, no_tree, with_step, with_steps}
use Rattle.mm_tree.specs.declared.plan.Plan.{Plan}
use Rattle.mm_tree.specs.declared.plan.PlanStep.{PlanStep}
use Rattle.mm_improve.specs.Assertions.{Terms}
use Rattle.mm_improve.specs.Finding.{AreLaid, LaysTrees, kids_at, or_none, premise_proofs, serves_at}
use Rattle.mm_improve.specs.Laying.{IsCounted, IsLaid, LaysFound, LaysTree, steps_in}
use Rattle.mm_chart.specs.Options.{all_there, is_there, on}
use Rattle.mm_improve.specs.Proving.{premise_proof, proof_by, proof_of}
use Rattle.mm_improve.specs.Ranks.{Use}
use Rattle.mm_improve.specs.declared.fault.ImproveFault.{ImproveFault}
use Rattle.mm_improve.specs.declared.fault.ImproveFault.TheVariants.{TooManySteps, TooDeep, Memory}

-- ## All there

cons_on : {A : Type 0} (a : A) (o : Option (List A)) (xs : List A) → on (λ ys. a ∷ ys) o ≡ Some xs → (ys : List A) × (o ≡ Some ys) × (xs ≡ a ∷ ys)
cons_on a None xs h = absurd (cc)
cons_on a (Some ys) xs h = (ys, refl, (let q : Some (a ∷ ys) ≡ Some xs = h in cc))

all-at : {A : Type 0} (os : List (Option A)) (xs : List A) → all_there os ≡ Some xs → (i : ℕ) (d : A) → i < length os → get_or os i None ≡ Some (get_or xs i d)
all-at [] xs h i d l = absurd (omega arith)
all-at (None ∷ os) xs h i d l = absurd (cc)
all-at (Some a ∷ os) xs h zero d l = let r = cons_on a (all_there os) xs h in ap (λ zs. Some (get_or zs 0 d)) (sym r.2)
all-at (Some a ∷ os) xs h (suc i) d l = let r = cons_on a (all_there os) xs h in all-at os r.0 r.1 i d (omega arith) ∙ ap (λ zs. Some (get_or zs (suc i) d)) (sym r.2)

all-many : {A : Type 0} (os : List (Option A)) (xs : List A) → all_there os ≡ Some xs → length xs ≡ length os
all-many [] xs h = let q : [] ≡ xs = cc in ap length (sym q)
all-many (None ∷ os) xs h = absurd (cc)
all-many (Some a ∷ os) xs h = let r = cons_on a (all_there os) xs h in ap length r.2 ∙ ap suc (all-many os r.0 r.1)

or_none-some : (o : Option (List Plain)) → is_there o ≡ true → o ≡ Some (or_none o)
or_none-some None h = absurd (false≢true h)
or_none-some (Some xs) h = refl

map-at : (f : ℕ → Option Plain) (xs : List ℕ) (i : ℕ) → i < length xs → get_or (map f xs) i None ≡ f (get_or xs i 0)
map-at f [] i l = absurd (omega arith)
map-at f (x ∷ xs) zero l = refl
map-at f (x ∷ xs) (suc i) l = map-at f xs i (omega arith)

module _ (c : Terms) (d : ℕ) (u : Use) (serves : serves_at c d u ≡ true) where
  abbrev kids : List Plain
  kids = kids_at c d u

  all-kids : all_there (premise_proofs c d u) ≡ Some kids
  all-kids = or_none-some (all_there (premise_proofs c d u)) serves

  pub many-kids : length kids ≡ length (premise_ids c.bytes u.id)
  many-kids = all-many (premise_proofs c d u) kids all-kids ∙ length-map (premise_ids c.bytes u.id) (premise_proof c (proof_of c d) u.sigma)

  -- each is the proof of its hypothesis
  pub kid-at : (i : ℕ) → i < length (premise_ids c.bytes u.id) → premise_proof c (proof_of c d) u.sigma (get_or (premise_ids c.bytes u.id) i 0) ≡ Some (get_or kids i no_tree)
  kid-at i l =
      sym (map-at (premise_proof c (proof_of c d) u.sigma) (premise_ids c.bytes u.id) i l)
      ∙ all-at (premise_proofs c d u) kids all-kids i no_tree (omega (arith, l, length-map (premise_ids c.bytes u.id) (premise_proof c (proof_of c d) u.sigma)))

  -- the proof by the use is a step over them
  pub proof-known : (g : List WSym) → proof_by c (proof_of c d) g u ≡ Some (known g u.id u.sigma kids)
  proof-known g = ap (on (known g u.id u.sigma)) all-kids

-- ## Sizes and heights

sum-at : (xs : List Plain) (i : ℕ) → i < length xs → sum_by size_of (take i xs) + size_of (get_or xs i no_tree) ≤ sum_by size_of xs
sum-at xs i l = sum_by_more_le size_of xs i no_tree l

sum-more : (xs : List Plain) (i : ℕ) → i < length xs → sum_by size_of (take (i + 1) xs) ≡ sum_by size_of (take i xs) + size_of (get_or xs i no_tree)
sum-more xs i l =
    ap (sum_by size_of) (take_more xs i no_tree l) ∙ sum_by-append size_of (take i xs) (get_or xs i no_tree ∷ [])
    ∙ (let e = sum_by-cons size_of (get_or xs i no_tree) [] in omega (arith, e))

height-at : (xs : List Plain) (i n : ℕ) → i < length xs → n < height_of (get_or xs i no_tree) → n < greatest (map height_of xs)
height-at [] i n l h = absurd (omega arith)
height-at (x ∷ xs) zero n l h = omega (arith, h)
height-at (x ∷ xs) (suc i) n l h = let r = height-at xs i n (omega arith) h in omega (arith, r)

low-more : (xs : List Plain) (x : Plain) (n : ℕ) → greatest (map height_of xs) ≤ n → height_of x ≤ n → greatest (map height_of (xs ++ x ∷ [])) ≤ n
low-more [] x n h l = omega (arith, l)
low-more (y ∷ xs) x n h l =
    let first : height_of y ≤ n = omega (arith, h) in
    let later : greatest (map height_of xs) ≤ n = omega (arith, h) in
    let r = low-more xs x n later l in
    omega (arith, first, r)

-- ## Counts

counted-known : (g : List WSym) (id : ℕ) (s : Pairs) (xs : List Plain) → size_of (known g id s xs) ≡ 1 + sum_by size_of xs
counted-known g id s xs = omega (arith, size_of-known g id s xs)

module _ (c : Terms) (d : ℕ) (u : Use) (serves : serves_at c d u ≡ true) where
  abbrev trees : List Plain
  trees = kids_at c d u

  abbrev here : ℕ → Option Plain
  here i = premise_proof c (proof_of c d) u.sigma (get_or (premise_ids c.bytes u.id) i 0)

  some-is : (g : List WSym) (x : Plain) → proof_by c (proof_of c d) g u ≡ Some x → x ≡ known g u.id u.sigma trees
  some-is g x e = let q : Some x ≡ Some (known g u.id u.sigma trees) = sym e ∙ proof-known c d u serves g in cc

  size-is : (g : List WSym) (x : Plain) → proof_by c (proof_of c d) g u ≡ Some x → size_of x ≡ 1 + sum_by size_of trees
  size-is g x e = ap size_of (some-is g x e) ∙ counted-known g u.id u.sigma trees

  -- one more is counted
  pub count-more : (i n steps : ℕ) → i < length (premise_ids c.bytes u.id) → IsCounted (here i) (Ok n) → steps ≡ 1 + sum_by size_of (take i trees) → (steps + n ≡ 1 + sum_by size_of (take (i + 1) trees)) × (n ≤ most_steps)
  count-more i n steps l h e =
      let is = h (get_or trees i no_tree) (kid-at c d u serves i l) in
      let small : i < length trees = omega (arith, l, many-kids c d u serves) in
      let size = is.0 in
      (omega (arith, e, size, sum-more trees i small), is.1)

  pub count-fails : (i : ℕ) (f : ImproveFault) → i < length (premise_ids c.bytes u.id) → IsCounted (here i) (Err f) → (g : List WSym) → IsCounted (proof_by c (proof_of c d) g u) (Err f)
  count-fails i TooManySteps l h g = λ x e.
      let many = h (get_or trees i no_tree) (kid-at c d u serves i l) in
      let small : i < length trees = omega (arith, l, many-kids c d u serves) in
      omega (arith, many, size-is g x e, sum-at trees i small)
  count-fails i TooDeep l h g = h
  count-fails i Memory l h g = tt

  pub count-over : (i steps : ℕ) → steps ≡ 1 + sum_by size_of (take i trees) → most_steps < steps → (g : List WSym) → IsCounted (proof_by c (proof_of c d) g u) (Err TooManySteps)
  count-over i steps e more g = λ x is. omega (arith, e, more, size-is g x is, sum_by-take-le size_of trees i)

  pub count-all : (i steps : ℕ) → length (premise_ids c.bytes u.id) ≤ i → steps ≡ 1 + sum_by size_of (take i trees) → steps ≤ most_steps → (g : List WSym) → IsCounted (proof_by c (proof_of c d) g u) (Ok steps)
  count-all i steps l e few g = λ x is.
      let whole = ap (sum_by size_of) (take_all i trees (omega (arith, l, many-kids c d u serves))) in
      (omega (arith, e, whole, size-is g x is), few)

  -- ## Layouts

  height-known : (g : List WSym) → height_of (known g u.id u.sigma trees) ≡ greatest (map height_of trees) + 1
  height-known g = height_of-known g u.id u.sigma trees

  laid-steps : (old new : Plan) (xs : List Plain) → (grove_of new).standing ≡ (grove_of old).standing ++ xs → steps_in new ≡ steps_in old + sum_by size_of xs
  laid-steps old new xs e = ap (sum_by size_of) e ∙ sum_by-append size_of (grove_of old).standing xs

  laid-found : (old new : Plan) (o : Option Plain) (x : Plain) (b : Bool) (left : ℕ) → o ≡ Some x → LaysFound old o left (Ok b) new → IsLaid old x left new
  laid-found old new o x b left e h = let P : Option Plain → Type 0 = λ o. LaysFound old o left (Ok b) new in (subst P e h).1

  failed-found : (old new : Plan) (o : Option Plain) (x : Plain) (f : ImproveFault) (left : ℕ) → o ≡ Some x → LaysFound old o left (Err f) new → LaysTree {A = Bool} old x left (Err f) new
  failed-found old new o x f left e h = let P : Option Plain → Type 0 = λ o. LaysFound old o left (Err f) new in subst P e h

  -- one more is laid
  pub laid-more : (old now new : Plan) (i left : ℕ) (b : Bool) → i < length (premise_ids c.bytes u.id) → AreLaid old (take i trees) left now → LaysFound now (here i) left (Ok b) new → AreLaid old (take (i + 1) trees) left new
  laid-more old now new i left b l a h =
      let x = get_or trees i no_tree in
      let small : i < length trees = omega (arith, l, many-kids c d u serves) in
      let laid = laid-found now new (here i) x b left (kid-at c d u serves i l) h in
      let more = take_more trees i no_tree small in
      record {
        plan = laid.plan;
        standing = laid.standing ∙ ap (λ xs. xs ++ x ∷ []) a.standing ∙ append_assoc (grove_of old).standing (take i trees) (x ∷ []) ∙ ap (λ xs. (grove_of old).standing ++ xs) (sym more);
        low = subst (λ xs. greatest (map height_of xs) ≤ left) (sym more) (low-more (take i trees) x left a.low laid.low);
      }

  pub lay-fails : {A : Type 0} (old now new : Plan) (i left : ℕ) (r : Result A ImproveFault) (f : ImproveFault) → r ≡ Err f → i < length (premise_ids c.bytes u.id) → AreLaid old (take i trees) left now → LaysFound now (here i) left (Err f) new → LaysTrees {A = A} old trees left r new
  lay-fails {A} old now new i left r f e l a h =
      let x = get_or trees i no_tree in
      let small : i < length trees = omega (arith, l, many-kids c d u serves) in
      let P : Result A ImproveFault → Type 0 = λ r. LaysTrees {A = A} old trees left r new in
      subst P (sym e) (by f (failed-found now new (here i) x f left (kid-at c d u serves i l) h) small)
    where
      by : (f : ImproveFault) → LaysTree {A = Bool} now (get_or trees i no_tree) left (Err f) new → i < length trees → LaysTrees {A = A} old trees left (Err f) new
      by TooManySteps k small = omega (arith, k, laid-steps old now (take i trees) a.standing, sum-at trees i small)
      by TooDeep k small = height-at trees i left small k
      by Memory k small = tt

  pub laid-all : (old new : Plan) (i left : ℕ) → length (premise_ids c.bytes u.id) ≤ i → AreLaid old (take i trees) left new → AreLaid old trees left new
  laid-all old new i left l a = subst (λ xs. AreLaid old xs left new) (take_all i trees (omega (arith, l, many-kids c d u serves))) a

  -- ## The step over them

  abbrev whole : List WSym → Plain
  whole g = known g u.id u.sigma trees

  pub found-err : (g : List WSym) (old new : Plan) (left : ℕ) (f : ImproveFault) → LaysTree {A = Bool} old (whole g) left (Err f) new → LaysFound old (proof_by c (proof_of c d) g u) left (Err f) new
  found-err g old new left f h = let P : Option Plain → Type 0 = λ o. LaysFound old o left (Err f) new in subst P (sym (proof-known c d u serves g)) h

  pub found-ok : (g : List WSym) (old new : Plan) (left : ℕ) → IsLaid old (whole g) left new → LaysFound old (proof_by c (proof_of c d) g u) left (Ok true) new
  found-ok g old new left h = let P : Option Plain → Type 0 = λ o. LaysFound old o left (Ok true) new in subst P (sym (proof-known c d u serves g)) (refl, h)

  pub none-left : (g : List WSym) (old new : Plan) (left : ℕ) → left ≡ 0 → LaysFound old (proof_by c (proof_of c d) g u) left (Err TooDeep) new
  none-left g old new left e = found-err g old new left TooDeep (omega (arith, e, height-known g))

  pub kids-fail : (A : Type 0) (g : List WSym) (old new : Plan) (n left : ℕ) (f : ImproveFault) → left ≡ n + 1 → LaysTrees {A = A} old trees n (Err f) new → LaysFound old (proof_by c (proof_of c d) g u) left (Err f) new
  kids-fail A g old new n left TooManySteps e h = found-err g old new left TooManySteps (omega (arith, h, counted-known g u.id u.sigma trees))
  kids-fail A g old new n left TooDeep e h = found-err g old new left TooDeep (omega (arith, e, h, height-known g))
  kids-fail A g old new n left Memory e h = found-err g old new left Memory tt

  pub no-room : (g : List WSym) (old now : Plan) (n left : ℕ) → AreLaid old trees n now → most_steps ≤ steps_in now → LaysFound old (proof_by c (proof_of c d) g u) left (Err TooManySteps) now
  no-room g old now n left a h = found-err g old now left TooManySteps (omega (arith, h, laid-steps old now trees a.standing, counted-known g u.id u.sigma trees))

  pub takes-few : (old now : Plan) (n takes : ℕ) → AreLaid old trees n now → takes ≡ length (premise_ids c.bytes u.id) → takes ≤ length (grove_of now).standing
  takes-few old now n takes a e = omega (arith, e, many-kids c d u serves, ap length a.standing, length-append (grove_of old).standing trees)

  pub stepped : (g : List WSym) (old now new : Plan) (n left takes : ℕ) → left ≡ n + 1 → AreLaid old trees n now → takes ≡ length (premise_ids c.bytes u.id) → IsPlan new
      → grove_of new ≡ grown (grove_of now) (length (grove_of now).standing - takes) (known g u.id u.sigma (drop (length (grove_of now).standing - takes) (grove_of now).standing))
      → LaysFound old (proof_by c (proof_of c d) g u) left (Ok true) new
  stepped g old now new n left takes e a t plan grove =
      let front = (grove_of old).standing in
      let stay : length (grove_of now).standing - takes ≡ length front = omega (arith, t, many-kids c d u serves, ap length a.standing, length-append front trees) in
      let cut : drop (length (grove_of now).standing - takes) (grove_of now).standing ≡ trees = ap (λ (k : ℕ). drop k (grove_of now).standing) stay ∙ ap (drop (length front)) a.standing ∙ drop-append_seam front trees in
      let kept : take (length (grove_of now).standing - takes) (grove_of now).standing ≡ front = ap (λ (k : ℕ). take k (grove_of now).standing) stay ∙ ap (take (length front)) a.standing ∙ take-append_seam front trees in
      found-ok g old new left (record {
        plan = plan;
        standing = ap (λ (v : Grove). v.standing) grove ∙ ap (λ xs. xs ++ known g u.id u.sigma (drop (length (grove_of now).standing - takes) (grove_of now).standing) ∷ []) kept ∙ ap (λ xs. front ++ known g u.id u.sigma xs ∷ []) cut;
        low = let low = a.low in omega (arith, e, low, height-known g);
      })

-- the trees of a plan have no more steps than a tree may have
fit-all : (os : List PlanStep) (g : Grove) → AreFit g os → sum_by size_of (with_steps os g).standing ≤ most_steps
fit-all [] g h = h
fit-all (o ∷ os) g h = fit-all os (with_step o g) h.2

pub plan-few : (p : Plan) → IsPlan p → steps_in p ≤ most_steps
plan-few p h = fit-all p.items.items no_grove h.fit
