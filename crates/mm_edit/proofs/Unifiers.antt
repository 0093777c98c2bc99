-- The symbols of listed unifiers are symbols of the two strings.
use Rattle.std.proofs.Common.{ℕ, zero, suc, ◌≡◌, List, [], ◌∷◌, ◌++◌, Bool, true, false, cond, Option, Some, None, ◌||◌, ◌^◌, ◌+◌, map, length, refl, if◌then◌else◌}
use Rattle.std.specs.Prelude.{nat_lt, ◌==◌}
use Rattle.std.specs.List.{All, AllByRecursion as ByRecursion, list_any}
use Rattle.std.proofs.lemmas.Bool.{cond_both}
use Rattle.std.proofs.lemmas.List.Elements.{recursion_from_All, All-from_recursion, All-nil, All-cons}
use Rattle.mm_subst.specs.declared.symbol.WSym.{WSym}
use Rattle.mm_subst.specs.declared.symbol.WSym.TheVariants.{Const, Var, Work}
use Rattle.mm_subst.specs.Symbols.{is_same, is_work}
use Rattle.mm_subst.specs.Substitutions.{Pairs, applied, with_values}
use Rattle.mm_plain.proofs.Bounds.{applied-known}
use Rattle.mm_unify.specs.Forbidden.{Forbidden}
use Rattle.mm_unify.specs.Listings.{answer}
use Rattle.mm_unify.specs.Search.{Node, Visit, Answer, dead_end, cut, falls_short, child, steps, visit, visit_cut, explore, is_too_long, unless_long, root, roots, selves}
use Rattle.mm_unify.specs.Variables.{numbers, with_number}

-- all symbols of a string have a property
abbrev Has : (WSym → Type 0) → List WSym → Type 0
Has P s = ByRecursion P s

-- a pair of a substitution for work variables has it
abbrev pub HasPair : (WSym → Type 0) → WSym × List WSym → Type 0
HasPair P q = (is_work q.0 ≡ true) × ByRecursion P q.1

record HasNode (P : WSym → Type 0) (node : Node) : Type 0 where
  pub left : ByRecursion P node.left
  pub right : ByRecursion P node.right
  pub values : ByRecursion (HasPair P) node.values

append-has : {X : Type 0} (P : X → Type 0) (s t : List X) → ByRecursion P s → ByRecursion P t → ByRecursion P (s ++ t)
append-has P [] t h k = k
append-has P (c ∷ s) t h k = (h.0, append-has P s t h.1 k)

applied-has : (P : WSym → Type 0) (p : WSym × List WSym) (s : List WSym) → ByRecursion P p.1 → ByRecursion P s → ByRecursion P (applied (p ∷ []) s)
applied-has P p s h k =
    recursion_from_All P _ (applied-known P (p ∷ []) (All-from_recursion (λ (q : WSym × List WSym). All P q.1) (p ∷ []) (All-from_recursion P p.1 h, tt)) s (All-from_recursion P s k))

values-has : (P : WSym → Type 0) (p : WSym × List WSym) → ByRecursion P p.1 → (values : Pairs) → ByRecursion (HasPair P) values → ByRecursion (HasPair P) (with_values (p ∷ []) values)
values-has P p h [] k = tt
values-has P p h (q ∷ values) k = ((k.0.0, applied-has P p q.1 h k.0.1), values-has P p h values k.1)

child-has : (P : WSym → Type 0) (l r : List WSym) (values : Pairs) (p : WSym × List WSym) → ByRecursion P p.1 → HasNode P (record { left = l; right = r; values = values }) → HasNode P (child l r values p)
child-has P l r values p h k = record { left = applied-has P p l h k.left; right = applied-has P p r h k.right; values = values-has P p h values k.values }

steps-have : (P : WSym → Type 0) (x y : WSym) → P x → P y → ByRecursion (λ p. ByRecursion P p.1) (steps x y)
steps-have P x y h k =
    cond_both (is_work x)
    ((x, y ∷ []) ∷ (x, y ∷ x ∷ []) ∷ cond (is_work y) ((y, x ∷ y ∷ []) ∷ []) [])
    (cond (is_work y) ((y, x ∷ []) ∷ (y, x ∷ y ∷ []) ∷ []) [])
    (λ ps. ByRecursion (λ p. ByRecursion P p.1) ps)
    (λ e. ((k, tt), ((k, (h, tt)), cond_both (is_work y) ((y, x ∷ y ∷ []) ∷ []) [] (λ ps. ByRecursion (λ p. ByRecursion P p.1) ps) (λ f. ((h, (k, tt)), tt)) (λ f. tt))))
    (λ e. cond_both (is_work y) ((y, x ∷ []) ∷ (y, x ∷ y ∷ []) ∷ []) [] (λ ps. ByRecursion (λ p. ByRecursion P p.1) ps) (λ f. ((h, tt), ((h, (k, tt)), tt))) (λ f. tt))

children-have : (P : WSym → Type 0) (l r : List WSym) (values : Pairs) → HasNode P (record { left = l; right = r; values = values }) → (ps : List (WSym × List WSym)) → ByRecursion (λ p. ByRecursion P p.1) ps
    → ByRecursion (HasNode P) (map (child l r values) ps)
children-have P l r values h [] k = tt
children-have P l r values h (p ∷ ps) k = (child-has P l r values p k.0 h, children-have P l r values h ps k.1)

abbrev HasVisit : (WSym → Type 0) → Visit → Type 0
HasVisit P v = ByRecursion (ByRecursion (HasPair P)) v.found × ByRecursion (HasNode P) v.children

visit_cut-has : (P : WSym → Type 0) (f : Forbidden) (values : Pairs) (l r : List WSym) → HasNode P (record { left = l; right = r; values = values }) → HasVisit P (visit_cut f values l r)
visit_cut-has P f values [] [] h =
    cond_both (list_any (λ q. f.at_end q.1) values) [] (values ∷ []) (λ us. ByRecursion (ByRecursion (HasPair P)) us × Unit {0}) (λ e. (tt, tt)) (λ e. ((h.values, tt), tt))
visit_cut-has P f values [] (y ∷ r) h = (tt, tt)
visit_cut-has P f values (x ∷ l) [] h = (tt, tt)
visit_cut-has P f values (x ∷ l) (y ∷ r) h =
    cond_both (falls_short (x ∷ l) (y ∷ r) || falls_short (y ∷ r) (x ∷ l) || list_any (λ q. f.so_far q.1) values)
    dead_end (record { found = []; children = map (child (x ∷ l) (y ∷ r) values) (steps x y) }) (HasVisit P)
    (λ e. (tt, tt))
    (λ e. (tt, children-have P (x ∷ l) (y ∷ r) values h (steps x y) (steps-have P x y h.left.0 h.right.0)))

cut-has : (P : WSym → Type 0) (l r : List WSym) → ByRecursion P l → ByRecursion P r → ByRecursion P (cut l r).0 × ByRecursion P (cut l r).1
cut-has P [] r h k = (tt, k)
cut-has P (x ∷ l) [] h k = (h, tt)
cut-has P (x ∷ l) (y ∷ r) h k =
    cond_both (is_same x y) (cut l r) (x ∷ l, y ∷ r) (λ c. ByRecursion P c.0 × ByRecursion P c.1) (λ e. cut-has P l r h.1 k.1) (λ e. (h, k))

visit-has : (P : WSym → Type 0) (f : Forbidden) (node : Node) → HasNode P node → HasVisit P (visit f node)
unfolding visit
visit-has P f node h =
    let c = cut-has P node.left node.right h.left h.right in
    visit_cut-has P f node.values (cut node.left node.right).0 (cut node.left node.right).1 (record { left = c.0; right = c.1; values = h.values })

explore-has : (P : WSym → Type 0) (f : Forbidden) (n : ℕ) (nodes : List Node) → ByRecursion (HasNode P) nodes → ByRecursion (ByRecursion (HasPair P)) (explore f n nodes).found
unfolding explore
explore-has P f n [] h = tt
explore-has P f zero (node ∷ rest) h = tt
explore-has P f (suc n) (node ∷ rest) h =
    let v = visit-has P f node h.0 in
    go (is_too_long node) v.0 (explore-has P f n ((visit f node).children ++ rest) (append-has (HasNode P) (visit f node).children rest v.1 h.1))
  where
    later : Answer
    later = explore f n ((visit f node).children ++ rest)

    go : (t : Bool) → ByRecursion (ByRecursion (HasPair P)) (visit f node).found → ByRecursion (ByRecursion (HasPair P)) later.found
        → ByRecursion (ByRecursion (HasPair P)) (unless_long t (visit f node).found later).found
    go true v k = tt
    go false v k = append-has (ByRecursion (HasPair P)) (visit f node).found later.found v k

with_number-has : (P : ℕ → Type 0) (n : ℕ) (ms : List ℕ) → P n → ByRecursion P ms → ByRecursion P (with_number n ms)
with_number-has P n [] h k = (h, tt)
with_number-has P n (m ∷ ms) h k = go (nat_lt n m) (n == m) (with_number-has P n ms h k.1)
  where
    go : (b c : Bool) → ByRecursion P (with_number n ms) → ByRecursion P (if b then n ∷ m ∷ ms else if c then m ∷ ms else m ∷ with_number n ms)
    go true c later = (h, k)
    go false true later = k
    go false false later = (k.0, later)

numbers-have : (P : WSym → Type 0) (s : List WSym) → ByRecursion P s → ByRecursion (λ n. P (Work n)) (numbers s)
numbers-have P [] h = tt
numbers-have P (Const n ∷ s) h = numbers-have P s h.1
numbers-have P (Var n ∷ s) h = numbers-have P s h.1
numbers-have P (Work n ∷ s) h = with_number-has (λ m. P (Work m)) n (numbers s) h.0 (numbers-have P s h.1)

selves-have : (P : WSym → Type 0) (ms : List ℕ) → ByRecursion (λ n. P (Work n)) ms → ByRecursion (HasPair P) (selves ms)
selves-have P [] h = tt
selves-have P (m ∷ ms) h = ((refl, (h.0, tt)), selves-have P ms h.1)

root-has : (P : WSym → Type 0) (a b : List WSym) → ByRecursion P a → ByRecursion P b → HasNode P (root a b)
root-has P a b h k = record { left = h; right = k; values = selves-have P (numbers (a ++ b)) (numbers-have P (a ++ b) (append-has P a b h k)) }

-- each listed unifier is one of work variables, and its values have such symbols alone as both strings have
pub answer-has : (P : WSym → Type 0) (f : Forbidden) (trials : Option ℕ) (a b : List WSym) → ByRecursion P a → ByRecursion P b → ByRecursion (ByRecursion (HasPair P)) (answer f trials a b).found
answer-has P f None a b h k = explore-has P f _ (roots a b) (root-has P a b h k, tt)
answer-has P f (Some n) a b h k = explore-has P f n (roots a b) (root-has P a b h k, tt)
