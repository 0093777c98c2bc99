-- Where one side has no work variable it doesn't matter which is the left one.
use Rattle.std.proofs.Common.{ℕ, zero, suc, ◌+◌, ◌≡◌, List, [], ◌∷◌, ◌++◌, Bool, true, false, cond, ◌||◌, map, refl, sym, ap, ◌∙◌, subst, inl, inr, ◌⊎◌}
use Rattle.std.specs.List.{AllByRecursion, list_any}
use Rattle.mm_subst.specs.declared.symbol.WSym.{WSym}
use Rattle.mm_subst.specs.declared.symbol.WSym.TheVariants.{Const, Var, Work}
use Rattle.mm_subst.specs.Symbols.{is_same, is_work, has_work}
use Rattle.mm_subst.specs.Substitutions.{Pairs}
use Rattle.mm_subst.proofs.Keys.{is_same-comm}
use Rattle.mm_unify.specs.Forbidden.{Forbidden}
use Rattle.mm_unify.specs.Variables.{numbers, with_number}
use Rattle.std.proofs.Common.{◌^◌, Option, None, Some, add_comm, length}
use Rattle.mm_unify.specs.Listings.{answer}
use Rattle.mm_unify.specs.Search.{Node, Visit, dead_end, cut, falls_short, child, steps, visit, visit_cut, explore, is_too_long, unless_long, root, roots, selves}
use Rattle.mm_unify.proofs.Lists.{AllByRecursion-append}
use Rattle.mm_unify.proofs.Cut.{cut_front}
use Rattle.mm_unify.proofs.Balanced.{Plain, plain_right}
use Rattle.mm_unify.proofs.Weight.{Sided, lighter_visit, plain_from_test, sided_first, side_of}

abbrev pub mirror : Node → Node
mirror node = record { left = node.right; right = node.left; values = node.values }

cut-swap : (l r : List WSym) → ((cut r l).0 ≡ (cut l r).1) × ((cut r l).1 ≡ (cut l r).0)
cut-swap [] [] = (refl, refl)
cut-swap [] (y ∷ r) = (refl, refl)
cut-swap (x ∷ l) [] = (refl, refl)
cut-swap (x ∷ l) (y ∷ r) = rw (is_same-comm y x) (go (is_same x y) (cut-swap l r))
  where
    go : (b : Bool) → ((cut r l).0 ≡ (cut l r).1) × ((cut r l).1 ≡ (cut l r).0) →
        ((cond b (cut r l) (y ∷ r, x ∷ l)).0 ≡ (cond b (cut l r) (x ∷ l, y ∷ r)).1) × ((cond b (cut r l) (y ∷ r, x ∷ l)).1 ≡ (cond b (cut l r) (x ∷ l, y ∷ r)).0)
    go true h = h
    go false h = (refl, refl)

-- one of the two heads is no work variable
one_head : (x y : WSym) → (is_work x ≡ false) ⊎ (is_work y ≡ false) → steps y x ≡ steps x y
one_head (Work m) (Work n) (inl h) = cc
one_head (Work m) (Work n) (inr h) = cc
one_head (Work m) (Const n) h = refl
one_head (Work m) (Var n) h = refl
one_head (Const m) (Work n) h = refl
one_head (Var m) (Work n) h = refl
one_head (Const m) (Const n) h = refl
one_head (Const m) (Var n) h = refl
one_head (Var m) (Const n) h = refl
one_head (Var m) (Var n) h = refl

or_swap : (p q r : Bool) → (p || q || r) ≡ (q || p || r)
or_swap true true r = refl
or_swap true false r = refl
or_swap false true r = refl
or_swap false false r = refl

map_mirror : (values : Pairs) (l r : List WSym) (ps : List (WSym × List WSym)) → map (child r l values) ps ≡ map mirror (map (child l r values) ps)
map_mirror values l r [] = refl
map_mirror values l r (p ∷ ps) = ap (λ ns. child r l values p ∷ ns) (map_mirror values l r ps)

abbrev OneSide : List WSym → List WSym → Type 0
OneSide l r = Plain l ⊎ Plain r

abbrev Swapped : Visit → Visit → Type 0
Swapped v w = (v.found ≡ w.found) × (v.children ≡ map mirror w.children)

visit_cut-swap : (rule : Forbidden) (values : Pairs) (l r : List WSym) → OneSide l r → Swapped (visit_cut rule values r l) (visit_cut rule values l r)
visit_cut-swap rule values [] [] h = (refl, refl)
visit_cut-swap rule values [] (y ∷ r) h = (refl, refl)
visit_cut-swap rule values (x ∷ l) [] h = (refl, refl)
visit_cut-swap rule values (x ∷ l) (y ∷ r) h =
    rw (or_swap (falls_short (y ∷ r) (x ∷ l)) (falls_short (x ∷ l) (y ∷ r)) (list_any (λ q. rule.so_far q.1) values))
    (go (falls_short (x ∷ l) (y ∷ r) || falls_short (y ∷ r) (x ∷ l) || list_any (λ q. rule.so_far q.1) values)
    (map_mirror values (x ∷ l) (y ∷ r) (steps y x) ∙ ap (λ ps. map mirror (map (child (x ∷ l) (y ∷ r) values) ps)) (one_head x y (elim h [ inl p ↦ inl p.0 | inr p ↦ inr p.0 ]))))
  where
    go : (b : Bool) → map (child (y ∷ r) (x ∷ l) values) (steps y x) ≡ map mirror (map (child (x ∷ l) (y ∷ r) values) (steps x y)) →
        Swapped (cond b dead_end (record { found = []; children = map (child (y ∷ r) (x ∷ l) values) (steps y x) })) (cond b dead_end (record { found = []; children = map (child (x ∷ l) (y ∷ r) values) (steps x y) }))
    go true e = (refl, refl)
    go false e = (refl, e)

one_side : (b : Bool) (node : Node) → Sided b node → OneSide (cut node.left node.right).0 (cut node.left node.right).1
one_side true node h = let c = cut_front node.left node.right in inr (plain_right c.0 (cut node.left node.right).1 (subst Plain c.2 h))
one_side false node h = let c = cut_front node.left node.right in inl (plain_right c.0 (cut node.left node.right).0 (subst Plain c.1 h))

visit-mirror : (rule : Forbidden) (b : Bool) (node : Node) → Sided b node → Swapped (visit rule (mirror node)) (visit rule node)
unfolding visit
visit-mirror rule b node h =
    let s = cut-swap node.left node.right in
    rw (s.0, s.1) (visit_cut-swap rule node.values (cut node.left node.right).0 (cut node.left node.right).1 (one_side b node h))

map-append : (xs ys : List Node) → map mirror (xs ++ ys) ≡ map mirror xs ++ map mirror ys
map-append [] ys = refl
map-append (x ∷ xs) ys = ap (λ t. mirror x ∷ t) (map-append xs ys)

pub explore-mirror : (rule : Forbidden) (b : Bool) (n : ℕ) (nodes : List Node) → AllByRecursion (Sided b) nodes → explore rule n (map mirror nodes) ≡ explore rule n nodes
unfolding explore
explore-mirror rule b n [] h = refl
explore-mirror rule b zero (node ∷ rest) h = refl
explore-mirror rule b (suc n) (node ∷ rest) h =
    let s = visit-mirror rule b node h.0 in
    let v = lighter_visit rule b node h.0 in
    let ih = explore-mirror rule b n ((visit rule node).children ++ rest) (AllByRecursion-append (Sided b) (visit rule node).children rest v.0 h.1) in
    let e : (visit rule (mirror node)).children ++ map mirror rest ≡ map mirror ((visit rule node).children ++ rest) = ap (λ t. t ++ map mirror rest) s.1 ∙ sym (map-append (visit rule node).children rest) in
    ap (λ us. unless_long (is_too_long node) us (explore rule n ((visit rule (mirror node)).children ++ map mirror rest))) s.0
    ∙ ap (λ ns. unless_long (is_too_long node) (visit rule node).found (explore rule n ns)) e
    ∙ ap (λ a. unless_long (is_too_long node) (visit rule node).found a) ih

-- the numbers are those of the side that has work variables
pub numbers-right : (a b : List WSym) → Plain a → numbers (a ++ b) ≡ numbers b
numbers-right [] b h = refl
numbers-right (Const n ∷ a) b h = numbers-right a b h.1
numbers-right (Var n ∷ a) b h = numbers-right a b h.1
numbers-right (Work n ∷ a) b h = absurd (let k = h.0 in cc)

pub numbers-left : (a b : List WSym) → Plain b → numbers (a ++ b) ≡ numbers a
numbers-left [] b h = numbers-none b h
  where
    numbers-none : (s : List WSym) → Plain s → numbers s ≡ []
    numbers-none [] h = refl
    numbers-none (Const n ∷ s) h = numbers-none s h.1
    numbers-none (Var n ∷ s) h = numbers-none s h.1
    numbers-none (Work n ∷ s) h = absurd (let k = h.0 in cc)
numbers-left (Const n ∷ a) b h = numbers-left a b h
numbers-left (Var n ∷ a) b h = numbers-left a b h
numbers-left (Work n ∷ a) b h = ap (with_number n) (numbers-left a b h)

numbers-swap : (a b : List WSym) → OneSide a b → numbers (a ++ b) ≡ numbers (b ++ a)
numbers-swap a b (inl h) = numbers-right a b h ∙ sym (numbers-left b a h)
numbers-swap a b (inr h) = numbers-left a b h ∙ sym (numbers-right b a h)

-- so both searches have one answer
pub roots-mirror : (rule : Forbidden) (n : ℕ) (a b : List WSym) → (has_work a ≡ false) ⊎ (has_work b ≡ false) → explore rule n (roots b a) ≡ explore rule n (roots a b)
roots-mirror rule n a b h =
    let s = sided_first (root a b) h in
    let e = numbers-swap a b (elim h [ inl p ↦ inl (plain_from_test a p) | inr p ↦ inr (plain_from_test b p) ]) in
    ap (λ ms. explore rule n (record { left = b; right = a; values = selves ms } ∷ [])) (sym e) ∙ explore-mirror rule (side_of (root a b)) n (roots a b) (s, tt)

pub answer-mirror : (rule : Forbidden) (trials : Option ℕ) (a b : List WSym) → (has_work a ≡ false) ⊎ (has_work b ≡ false) → answer rule trials b a ≡ answer rule trials a b
answer-mirror rule None a b h =
    ap (λ (n : ℕ). explore rule (3 ^ n) (roots b a)) (add_comm (length b) (length a)) ∙ roots-mirror rule (3 ^ (length a + length b)) a b h
answer-mirror rule (Some n) a b h = roots-mirror rule n a b h
