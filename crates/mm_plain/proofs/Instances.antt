-- A sound tree is what a substitution makes of the tree with the same labels and fresh work variables.
use Rattle.std.proofs.Common.{suc, ◌≡◌, ℕ, ◌+◌, ◌<◌, ◌==◌, true, false, List, [], ◌∷◌, ◌++◌, map, length, Some, if◌then◌else◌, refl, sym, ◌∙◌, ap, subst, arith, length-append}
use Rattle.std.specs.List.{flat_map, sum_by, AllByRecursion as ByRecursion}
use Rattle.std.proofs.lemmas.List.{append-nil, length-map}
use Rattle.std.proofs.lemmas.List.Concat.{flat_map-append, flat_map-cons}
use Rattle.std.proofs.lemmas.List.Elements.{All-from_recursion}
use Rattle.std.proofs.lemmas.List.Sums.{sum_by-cons}
use Rattle.mm_subst.specs.declared.symbol.WSym.{WSym}
use Rattle.mm_subst.specs.declared.symbol.WSym.TheVariants.{Var, Work}
use Rattle.mm_subst.specs.Symbols.{is_work, has_work}
use Rattle.mm_subst.specs.Substitutions.{Pairs, value_at, or_itself, value_of, applied, with_values}
use Rattle.mm_subst.proofs.Replaced.{applied-one}
use Rattle.mm_plain.specs.declared.plain.Plain.{Plain}
use Rattle.mm_plain.specs.Premises.{premises_of, variables_for}
use Rattle.mm_plain.specs.Shape.{Each, Proof, known, unknown, steps_of, target_of}
use Rattle.mm_plain.specs.Valid.{Setting, setting_of, IsSound, IsValid}
use Rattle.mm_plain.specs.Binding.{bound, HasWorkKeys}
use Rattle.mm_plain.specs.Drawing.{draws_of, fresh_from, with_fresh, with_fresh_kids}
use Rattle.mm_plain.specs.LabelTrees.{fresh_proof}
use Rattle.mm_plain.specs.Instances.{values_at, values_in, numbered}
use Rattle.mm_plain.proofs.Equations.{by_trees, steps_of-unknown, steps_of-known, target_of-unknown, target_of-known}
use Rattle.mm_plain.proofs.Read.{sigma_of-unknown, sigma_of-known}
use Rattle.mm_plain.proofs.Kept.{kids-sound}
use Rattle.mm_plain.proofs.Binding.{bound-unknown, bound-known, same_known}
use Rattle.mm_plain.proofs.Works.{applied-plain}
use Rattle.mm_plain.proofs.Bounds.{premises-with_values}
use Rattle.mm_plain.proofs.Drawing.{own_from, own_values, own_targets, with_fresh-unknown, with_fresh-known, draws_of-unknown, draws_of-known}

-- the values of a tree

pub values_in-unknown : (t : List WSym) → values_in (unknown t) ≡ []
values_in-unknown t = ap (flat_map values_at) (steps_of-unknown t) ∙ append-nil (values_at (unknown t)) ∙ ap (map (λ p. p.1)) (sigma_of-unknown t)

values_of_kids : (kids : List Plain) → flat_map values_at (flat_map steps_of kids) ≡ flat_map values_in kids
values_of_kids [] = refl
values_of_kids (x ∷ xs) =
    ap (flat_map values_at) (flat_map-cons steps_of x xs)
    ∙ flat_map-append values_at (steps_of x) (flat_map steps_of xs)
    ∙ ap (λ vs. values_in x ++ vs) (values_of_kids xs)

abbrev values : Pairs → List (List WSym)
values s = map (λ p. p.1) s

pub values_in-known : (t : List WSym) (l : ℕ) (s : Pairs) (kids : List Plain) → values_in (known t l s kids) ≡ flat_map values_in kids ++ values s
values_in-known t l s kids =
    ap (flat_map values_at) (steps_of-known t l s kids)
    ∙ flat_map-append values_at (flat_map steps_of kids) (known t l s kids ∷ [])
    ∙ ap (λ vs. vs ++ (values_at (known t l s kids) ++ [])) (values_of_kids kids)
    ∙ ap (λ vs. flat_map values_in kids ++ vs) (append-nil (values_at (known t l s kids)) ∙ ap values (sigma_of-known t l s kids))

-- a sound tree has a value for each work variable that is drawn

abbrev Counts : Setting → Plain → Type 0
Counts c x = IsSound c x → length (values_in x) ≡ draws_of c.bytes x

kids_count : (c : Setting) (kids : List Plain) → Each (Counts c) kids → Each (IsSound c) kids → length (flat_map values_in kids) ≡ sum_by (draws_of c.bytes) kids
kids_count c [] e g = refl
kids_count c (x ∷ xs) e g =
    omega (arith, ap length (flat_map-cons values_in x xs), length-append (values_in x) (flat_map values_in xs), e.0 g.0, kids_count c xs e.1 g.1, sum_by-cons (draws_of c.bytes) x xs)

pub values_count : (c : Setting) (x : Plain) → IsSound c x → length (values_in x) ≡ draws_of c.bytes x
values_count c = by_trees (Counts c)
    (λ t g. ap length (values_in-unknown t) ∙ sym (draws_of-unknown c.bytes t))
    (λ t l s kids e g.
    let parts = kids-sound c t l s kids g in
    let own : length s ≡ length (variables_for c.bytes l) = sym (length-map s (λ p. p.0)) ∙ ap length parts.1.names.keys ∙ length-map (variables_for c.bytes l) Var in
    omega (arith, ap length (values_in-known t l s kids), length-append (flat_map values_in kids) (values s), length-map s (λ p. p.1), own, kids_count c kids e parts.0, draws_of-known c.bytes t l s kids))

-- a substitution has these values for the work variables from n on

abbrev pub Agrees : Pairs → ℕ → List (List WSym) → Type 0
Agrees gamma n [] = Unit {0}
Agrees gamma n (v ∷ vs) = (value_of gamma (Work n) ≡ v) × Agrees gamma (n + 1) vs

agrees_left : (gamma : Pairs) (n : ℕ) (us vs : List (List WSym)) → Agrees gamma n (us ++ vs) → Agrees gamma n us
agrees_left gamma n [] vs a = tt
agrees_left gamma n (u ∷ us) vs a = (a.0, agrees_left gamma (n + 1) us vs a.1)

agrees_right : (gamma : Pairs) (n : ℕ) (us vs : List (List WSym)) → Agrees gamma n (us ++ vs) → Agrees gamma (n + length us) vs
agrees_right gamma n [] vs a = let e : n ≡ n + 0 = omega arith in subst (λ m. Agrees gamma m vs) e a
agrees_right gamma n (u ∷ us) vs a = let e : n + 1 + length us ≡ n + suc (length us) = omega arith in subst (λ m. Agrees gamma m vs) e (agrees_right gamma (n + 1) us vs a.1)

-- so fresh values become those of a substitution with the same keys
fresh_values : (gamma : Pairs) (n : ℕ) (vs : List ℕ) (s : Pairs) → map (λ (p : WSym × List WSym). p.0) s ≡ map Var vs → Agrees gamma n (values s) → with_values gamma (fresh_from n vs) ≡ s
fresh_values gamma n [] [] h a = refl
fresh_values gamma n [] (p ∷ ps) h a = absurd (omega (arith, ap length h))
fresh_values gamma n (v ∷ vs) [] h a = absurd (omega (arith, ap length h))
fresh_values gamma n (v ∷ vs) (p ∷ ps) h a =
    let first : p.0 ≡ Var v = cc in
    let rest : map (λ (q : WSym × List WSym). q.0) ps ≡ map Var vs = cc in
    ap (λ w. (Var v, w) ∷ with_values gamma (fresh_from (n + 1) vs)) (applied-one gamma (Work n) ∙ a.0)
    ∙ ap (λ k. (k, p.1) ∷ with_values gamma (fresh_from (n + 1) vs)) (sym first)
    ∙ ap (λ qs. p ∷ qs) (fresh_values gamma (n + 1) vs ps rest a.1)

head_is : (x y : List WSym) (xs ys : List (List WSym)) → x ∷ xs ≡ y ∷ ys → x ≡ y
head_is x y xs ys e = cc

tail_is : (x y : List WSym) (xs ys : List (List WSym)) → x ∷ xs ≡ y ∷ ys → xs ≡ ys
tail_is x y xs ys e = cc

module _ (c : Setting) (gamma : Pairs) (works : HasWorkKeys gamma) where
  abbrev Becomes : Plain → Type 0
  Becomes x = (n : ℕ) (t : List WSym) → IsSound c x → Agrees gamma n (values_in x) → applied gamma t ≡ target_of x → bound gamma (with_fresh c.bytes x n t) ≡ x

  kids_become : (kids : List Plain) (n : ℕ) (ts : List (List WSym)) → Each Becomes kids → Each (IsSound c) kids → Agrees gamma n (flat_map values_in kids) → map (applied gamma) ts ≡ map target_of kids
      → map (bound gamma) (with_fresh_kids c.bytes kids n ts) ≡ kids
  kids_become [] n ts e g a h = refl
  kids_become (x ∷ xs) n [] e g a h = absurd (omega (arith, ap length h))
  kids_become (x ∷ xs) n (t ∷ ts) e g a h =
      let split : Agrees gamma n (values_in x ++ flat_map values_in xs) = subst (Agrees gamma n) (flat_map-cons values_in x xs) a in
      let count : n + length (values_in x) ≡ n + draws_of c.bytes x = ap (λ m. n + m) (values_count c x g.0) in
      let rest : Agrees gamma (n + draws_of c.bytes x) (flat_map values_in xs) = subst (λ m. Agrees gamma m (flat_map values_in xs)) count (agrees_right gamma n (values_in x) (flat_map values_in xs) split) in
      ap (λ y. y ∷ map (bound gamma) (with_fresh_kids c.bytes xs (n + draws_of c.bytes x) ts))
      (e.0 n t g.0 (agrees_left gamma n (values_in x) (flat_map values_in xs) split) (head_is (applied gamma t) (target_of x) (map (applied gamma) ts) (map target_of xs) h))
      ∙ ap (λ ys. x ∷ ys) (kids_become xs (n + draws_of c.bytes x) ts e.1 g.1 rest (tail_is (applied gamma t) (target_of x) (map (applied gamma) ts) (map target_of xs) h))

  pub becomes : (x : Plain) (n : ℕ) (t : List WSym) → IsSound c x → Agrees gamma n (values_in x) → applied gamma t ≡ target_of x → bound gamma (with_fresh c.bytes x n t) ≡ x
  becomes = by_trees Becomes
      (λ u n t g a h. ap (bound gamma) (with_fresh-unknown c.bytes u n t) ∙ bound-unknown gamma t ∙ ap unknown (h ∙ target_of-unknown u))
      (λ u l s kids e n t g a h.
      let parts = kids-sound c u l s kids g in
      let m : ℕ = own_from c.bytes kids n in
      let ts : List (List WSym) = own_targets c.bytes l kids n in
      let all : Agrees gamma n (flat_map values_in kids ++ values s) = subst (Agrees gamma n) (values_in-known u l s kids) a in
      let count : n + length (flat_map values_in kids) ≡ m = ap (λ k. n + k) (kids_count c kids (counts kids) parts.0) in
      let own : Agrees gamma m (values s) = subst (λ k. Agrees gamma k (values s)) count (agrees_right gamma n (flat_map values_in kids) (values s) all) in
      let same : with_values gamma (own_values c.bytes l kids n) ≡ s = fresh_values gamma m (variables_for c.bytes l) s parts.1.names.keys own in
      let targets : map (applied gamma) ts ≡ map target_of kids =
      premises-with_values c.bytes gamma (own_values c.bytes l kids n) l works ∙ ap (λ r. map (applied r) (premises_of c.bytes l)) same ∙ sym parts.1.children in
      ap (bound gamma) (with_fresh-known c.bytes u l s kids n t)
      ∙ bound-known gamma t l (own_values c.bytes l kids n) (with_fresh_kids c.bytes kids n ts)
      ∙ same_known l _ _ _ _ _ _ (h ∙ target_of-known u l s kids) same
      (kids_become kids n ts e parts.0 (agrees_left gamma n (flat_map values_in kids) (values s) all) targets))
    where
      counts : (xs : List Plain) → Each (Counts c) xs
      counts [] = tt
      counts (x ∷ xs) = (values_count c x, counts xs)

-- the substitution with these values

numbered_keys : (n : ℕ) (vs : List (List WSym)) → ByRecursion (λ p. is_work p.0 ≡ true) (numbered n vs)
numbered_keys n [] = tt
numbered_keys n (v ∷ vs) = (refl, numbered_keys (n + 1) vs)

apart : (k n : ℕ) → k < n → k == n ≡ false
apart k n h = grind arith

agrees_behind : (gamma : Pairs) (k n : ℕ) (w : List WSym) (vs : List (List WSym)) → k < n → Agrees gamma n vs → Agrees ((Work k, w) ∷ gamma) n vs
agrees_behind gamma k n w [] h a = tt
agrees_behind gamma k n w (v ∷ vs) h a =
    (ap (λ b. or_itself (Work n) (if b then Some w else value_at gamma (Work n))) (apart k n h) ∙ a.0, agrees_behind gamma k (n + 1) w vs (omega arith) a.1)

same_number : (n : ℕ) → n == n ≡ true
same_number n = grind arith

numbered_agrees : (n : ℕ) (vs : List (List WSym)) → Agrees (numbered n vs) n vs
numbered_agrees n [] = tt
numbered_agrees n (v ∷ vs) = (
  ap (λ b. or_itself (Work n) (if b then Some v else value_at (numbered (n + 1) vs) (Work n))) (same_number n),
  agrees_behind (numbered (n + 1) vs) n (n + 1) v vs (omega arith) (numbered_agrees (n + 1) vs),
)

-- a valid proof of a goal without work variables is what its values make of the fresh one
pub valid_becomes : (bytes : List ℕ) (at : ℕ) (goal : List WSym) (p : Proof) → IsValid bytes at goal p → has_work goal ≡ false
    → bound (numbered 1 (values_in p.plain)) (fresh_proof bytes goal p.plain).plain ≡ p.plain
valid_becomes bytes at goal p v plain =
    let gamma : Pairs = numbered 1 (values_in p.plain) in
    let works : HasWorkKeys gamma = All-from_recursion _ gamma (numbered_keys 1 (values_in p.plain)) in
    becomes (setting_of bytes at p) gamma works p.plain 1 goal v.steps (numbered_agrees 1 (values_in p.plain)) (applied-plain gamma works goal plain ∙ sym v.goal_is)

pub valid_counted : (bytes : List ℕ) (at : ℕ) (goal : List WSym) (p : Proof) → IsValid bytes at goal p → length (values_in p.plain) ≡ draws_of bytes p.plain
valid_counted bytes at goal p v = values_count (setting_of bytes at p) p.plain v.steps
