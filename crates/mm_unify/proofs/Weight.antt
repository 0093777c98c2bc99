-- Where one side has no work variable the search ends: each visit makes the waiting nodes lighter.
use Rattle.std.proofs.Common.{ℕ, zero, suc, ◌+◌, ◌*◌, ◌^◌, ◌≡◌, ◌<◌, ◌≤◌, List, [], ◌∷◌, ◌++◌, Bool, true, false, cond, ◌||◌, not, map, length, reverse, refl, sym, ap, subst, inl, inr, ◌⊎◌, arith, length-append}
use Rattle.std.specs.List.{AllByRecursion, list_any, sum_by}
use Rattle.std.proofs.lemmas.List.{reverse-append}
use Rattle.std.proofs.lemmas.List.Sums.{sum_by-cons, sum_by-append}
use Rattle.std.proofs.Math.Nat.{pow-succ'}
use Rattle.std.proofs.lemmas.Bool.{cond_both, cond-true, or_parts}
use Rattle.mm_subst.specs.declared.symbol.WSym.{WSym}
use Rattle.mm_subst.specs.Symbols.{is_same, is_work, has_work}
use Rattle.mm_subst.specs.Substitutions.{Pairs, applied}
use Rattle.mm_unify.specs.Search.{Node, dead_end, cut, falls_short, child, steps, visit, visit_cut, explore, is_too_long, unless_long, after, Answer}
use Rattle.mm_unify.specs.Forbidden.{Forbidden}
use Rattle.mm_unify.specs.declared.listing.Ended.TheVariants.{Trials}
use Rattle.mm_subst.proofs.Keys.{is_same-itself}
use Rattle.mm_unify.proofs.Mapping.{value_first}
use Rattle.mm_unify.proofs.Cut.{cut_front}
use Rattle.mm_unify.proofs.Lists.{AllByRecursion-append}
use Rattle.mm_unify.proofs.Balanced.{Plain, plain_apply, plain_right, step_plain}

abbrev pub pow3 : ℕ → ℕ
pow3 zero = 1
pow3 (suc n) = 3 * pow3 n

pow3-pos : (n : ℕ) → 0 < pow3 n
pow3-pos zero = omega arith
pow3-pos (suc n) = let h = pow3-pos n in omega arith

pow3-le : (m n : ℕ) → m ≤ n → pow3 m ≤ pow3 n
pow3-le zero n h = pow3-pos n
pow3-le (suc m) zero h = absurd (omega arith)
pow3-le (suc m) (suc n) h = let k = pow3-le m n (omega arith) in omega arith

-- the side without work variables: the right one, or else the left one
abbrev pub Sided : Bool → Node → Type 0
Sided true node = Plain node.right
Sided false node = Plain node.left

abbrev pub weight : Bool → Node → ℕ
weight true node = pow3 (length (cut node.left node.right).1)
weight false node = pow3 (length (cut node.left node.right).0)

abbrev pub weights : Bool → List Node → ℕ
weights b nodes = sum_by (weight b) nodes

cut_right : (l r : List WSym) → length (cut l r).1 ≤ length r
cut_right l r = let c = cut_front l r in let e = ap length c.2 in omega (arith, length-append c.0 (cut l r).1)

cut_left : (l r : List WSym) → length (cut l r).0 ≤ length l
cut_left l r = let c = cut_front l r in let e = ap length c.1 in omega (arith, length-append c.0 (cut l r).0)

-- a child, where the right side is plain
light_right : (values : Pairs) (x y : WSym) (l r w : List WSym) → is_work x ≡ true → Plain (y ∷ r) →
    Sided true (child (x ∷ l) (y ∷ r) values (x, y ∷ w)) × (weight true (child (x ∷ l) (y ∷ r) values (x, y ∷ w)) ≤ pow3 (length r))
unfolding applied
light_right values x y l r w e p =
    let k = plain_apply ((x, y ∷ w) ∷ []) (y ∷ r) (step_plain (x, y ∷ w) e) p in
    let f : applied ((x, y ∷ w) ∷ []) (x ∷ l) ≡ y ∷ (w ++ applied ((x, y ∷ w) ∷ []) l) = ap (λ s. s ++ applied ((x, y ∷ w) ∷ []) l) (value_first (x, y ∷ w) [] x (is_same-itself x)) in
    let m : cut (applied ((x, y ∷ w) ∷ []) (x ∷ l)) (applied ((x, y ∷ w) ∷ []) (y ∷ r)) ≡ cut (w ++ applied ((x, y ∷ w) ∷ []) l) r =
    rw (f, k) (cond-true (is_same y y) (cut (w ++ applied ((x, y ∷ w) ∷ []) l) r) (y ∷ (w ++ applied ((x, y ∷ w) ∷ []) l), y ∷ r) (is_same-itself y)) in (
      subst Plain (sym k) p,
      pow3-le (length (cut (applied ((x, y ∷ w) ∷ []) (x ∷ l)) (applied ((x, y ∷ w) ∷ []) (y ∷ r))).1) (length r)
          (let n = ap (λ (t : List WSym × List WSym). length t.1) m in let o = cut_right (w ++ applied ((x, y ∷ w) ∷ []) l) r in omega arith),
    )

light_left : (values : Pairs) (x y : WSym) (l r w : List WSym) → is_work y ≡ true → Plain (x ∷ l) →
    Sided false (child (x ∷ l) (y ∷ r) values (y, x ∷ w)) × (weight false (child (x ∷ l) (y ∷ r) values (y, x ∷ w)) ≤ pow3 (length l))
unfolding applied
light_left values x y l r w e p =
    let k = plain_apply ((y, x ∷ w) ∷ []) (x ∷ l) (step_plain (y, x ∷ w) e) p in
    let f : applied ((y, x ∷ w) ∷ []) (y ∷ r) ≡ x ∷ (w ++ applied ((y, x ∷ w) ∷ []) r) = ap (λ s. s ++ applied ((y, x ∷ w) ∷ []) r) (value_first (y, x ∷ w) [] y (is_same-itself y)) in
    let m : cut (applied ((y, x ∷ w) ∷ []) (x ∷ l)) (applied ((y, x ∷ w) ∷ []) (y ∷ r)) ≡ cut l (w ++ applied ((y, x ∷ w) ∷ []) r) =
    rw (f, k) (cond-true (is_same x x) (cut l (w ++ applied ((y, x ∷ w) ∷ []) r)) (x ∷ l, x ∷ (w ++ applied ((y, x ∷ w) ∷ []) r)) (is_same-itself x)) in (
      subst Plain (sym k) p,
      pow3-le (length (cut (applied ((y, x ∷ w) ∷ []) (x ∷ l)) (applied ((y, x ∷ w) ∷ []) (y ∷ r))).0) (length l)
          (let n = ap (λ (t : List WSym × List WSym). length t.0) m in let o = cut_left l (w ++ applied ((y, x ∷ w) ∷ []) r) in omega arith),
    )

-- what is to be shown of a visit
abbrev Lighter : Bool → ℕ → List Node → Type 0
Lighter b k nodes = AllByRecursion (Sided b) nodes × (weights b nodes < k)

two_lighter : (b : Bool) (k : ℕ) (m n : Node) → Sided b m → Sided b n → weight b m ≤ pow3 k → weight b n ≤ pow3 k → Lighter b (pow3 (suc k)) (m ∷ n ∷ [])
two_lighter b k m n s t u v =
    ((s, (t, tt)), let p = pow3-pos k in let a = sum_by-cons (weight b) m (n ∷ []) in let c = sum_by-cons (weight b) n [] in omega arith)

right_steps : (values : Pairs) (x y : WSym) (l r : List WSym) → Plain (y ∷ r) → Lighter true (pow3 (suc (length r))) (map (child (x ∷ l) (y ∷ r) values) (steps x y))
right_steps values x y l r p =
    cond_both (is_work x)
    ((x, y ∷ []) ∷ (x, y ∷ x ∷ []) ∷ cond (is_work y) ((y, x ∷ y ∷ []) ∷ []) [])
    (cond (is_work y) ((y, x ∷ []) ∷ (y, x ∷ y ∷ []) ∷ []) [])
    (λ ps. Lighter true (pow3 (suc (length r))) (map (child (x ∷ l) (y ∷ r) values) ps))
    (λ e. rw p.0 (let f = light_right values x y l r [] e p in let g = light_right values x y l r (x ∷ []) e p in
    two_lighter true (length r) (child (x ∷ l) (y ∷ r) values (x, y ∷ [])) (child (x ∷ l) (y ∷ r) values (x, y ∷ x ∷ [])) f.0 g.0 f.1 g.1))
    (λ e. rw p.0 (tt, pow3-pos (suc (length r))))

left_steps : (values : Pairs) (x y : WSym) (l r : List WSym) → Plain (x ∷ l) → Lighter false (pow3 (suc (length l))) (map (child (x ∷ l) (y ∷ r) values) (steps x y))
left_steps values x y l r p =
    rw p.0
    (cond_both (is_work y) ((y, x ∷ []) ∷ (y, x ∷ y ∷ []) ∷ []) [] (λ ps. Lighter false (pow3 (suc (length l))) (map (child (x ∷ l) (y ∷ r) values) ps))
    (λ e. let f = light_left values x y l r [] e p in let g = light_left values x y l r (y ∷ []) e p in
    two_lighter false (length l) (child (x ∷ l) (y ∷ r) values (y, x ∷ [])) (child (x ∷ l) (y ∷ r) values (y, x ∷ y ∷ [])) f.0 g.0 f.1 g.1)
    (λ e. (tt, pow3-pos (suc (length l)))))

abbrev pow_side : Bool → List WSym → List WSym → ℕ
pow_side true l r = pow3 (length r)
pow_side false l r = pow3 (length l)

abbrev plain_side : Bool → List WSym → List WSym → Type 0
plain_side true l r = Plain r
plain_side false l r = Plain l

lighter_cut : (rule : Forbidden) (b : Bool) (values : Pairs) (l r : List WSym) → plain_side b l r → Lighter b (pow_side b l r) (visit_cut rule values l r).children
lighter_cut rule true values [] [] h = (tt, pow3-pos 0)
lighter_cut rule true values [] (y ∷ r) h = (tt, pow3-pos (suc (length r)))
lighter_cut rule true values (x ∷ l) [] h = (tt, pow3-pos 0)
lighter_cut rule false values [] [] h = (tt, pow3-pos 0)
lighter_cut rule false values [] (y ∷ r) h = (tt, pow3-pos 0)
lighter_cut rule false values (x ∷ l) [] h = (tt, pow3-pos (suc (length l)))
lighter_cut rule true values (x ∷ l) (y ∷ r) h =
    cond_both (falls_short (x ∷ l) (y ∷ r) || falls_short (y ∷ r) (x ∷ l) || list_any (λ q. rule.so_far q.1) values)
    dead_end (record { found = []; children = map (child (x ∷ l) (y ∷ r) values) (steps x y) }) (λ v. Lighter true (pow3 (suc (length r))) v.children)
    (λ e. (tt, pow3-pos (suc (length r)))) (λ e. right_steps values x y l r h)
lighter_cut rule false values (x ∷ l) (y ∷ r) h =
    cond_both (falls_short (x ∷ l) (y ∷ r) || falls_short (y ∷ r) (x ∷ l) || list_any (λ q. rule.so_far q.1) values)
    dead_end (record { found = []; children = map (child (x ∷ l) (y ∷ r) values) (steps x y) }) (λ v. Lighter false (pow3 (suc (length l))) v.children)
    (λ e. (tt, pow3-pos (suc (length l)))) (λ e. left_steps values x y l r h)

pub lighter_visit : (rule : Forbidden) (b : Bool) (node : Node) → Sided b node → Lighter b (weight b node) (visit rule node).children
unfolding visit
lighter_visit rule true node h =
    let c = cut_front node.left node.right in
    lighter_cut rule true node.values (cut node.left node.right).0 (cut node.left node.right).1 (plain_right c.0 (cut node.left node.right).1 (subst Plain c.2 h))
lighter_visit rule false node h =
    let c = cut_front node.left node.right in
    lighter_cut rule false node.values (cut node.left node.right).0 (cut node.left node.right).1 (plain_right c.0 (cut node.left node.right).0 (subst Plain c.1 h))

-- on the waiting nodes, whose last one is visited
weights-reverse : (b : Bool) (nodes : List Node) → weights b (reverse nodes) ≡ weights b nodes
weights-reverse b [] = refl
weights-reverse b (node ∷ nodes) =
    let ih = weights-reverse b nodes in
    let a = sum_by-append (weight b) (reverse nodes) (node ∷ []) in
    let c = sum_by-cons (weight b) node nodes in
    let d = sum_by-cons (weight b) node [] in
    let e = ap (sum_by (weight b)) (reverse-append (node ∷ []) nodes) in
    omega arith

sided-reverse : (b : Bool) (nodes : List Node) → AllByRecursion (Sided b) nodes → AllByRecursion (Sided b) (reverse nodes)
sided-reverse b [] h = tt
sided-reverse b (node ∷ nodes) h = subst (AllByRecursion (Sided b)) (sym (reverse-append (node ∷ []) nodes)) (AllByRecursion-append (Sided b) (reverse nodes) (node ∷ []) (sided-reverse b nodes h.1) (h.0, tt))

sided_front : (b : Bool) (xs ys : List Node) → AllByRecursion (Sided b) (xs ++ ys) → AllByRecursion (Sided b) xs × AllByRecursion (Sided b) ys
sided_front b [] ys h = (tt, h)
sided_front b (x ∷ xs) ys h = let r = sided_front b xs ys h.1 in ((h.0, r.0), r.1)

pub sided_step : (rule : Forbidden) (b : Bool) (nodes xs ys : List Node) (node : Node) → nodes ≡ xs ++ node ∷ [] → ys ≡ xs ++ reverse (visit rule node).children →
    AllByRecursion (Sided b) nodes → AllByRecursion (Sided b) ys × (weights b ys < weights b nodes)
sided_step rule b nodes xs ys node e f h =
    let s = sided_front b xs (node ∷ []) (subst (AllByRecursion (Sided b)) e h) in
    let v = lighter_visit rule b node s.1.0 in (
      subst (AllByRecursion (Sided b)) (sym f) (AllByRecursion-append (Sided b) xs (reverse (visit rule node).children) s.0 (sided-reverse b (visit rule node).children v.0)),
      let k = v.1 in
          let w = ap (weights b) e in
          let w' = ap (weights b) f in
          let a = sum_by-append (weight b) xs (node ∷ []) in
          let a' = sum_by-append (weight b) xs (reverse (visit rule node).children) in
          let d = sum_by-cons (weight b) node [] in
          let g = weights-reverse b (visit rule node).children in
          omega arith,
    )

-- the side of a first node
abbrev pub side_of : Node → Bool
side_of first = not (has_work first.right)

pub plain_from_test : (s : List WSym) → has_work s ≡ false → Plain s
plain_from_test [] h = tt
plain_from_test (c ∷ s) h = let p = or_parts (is_work c) (has_work s) h in (p.0, plain_from_test s p.1)

pub sided_first : (first : Node) → (has_work first.left ≡ false) ⊎ (has_work first.right ≡ false) → Sided (side_of first) first
sided_first first h = go (has_work first.right) refl
  where
    go : (b : Bool) → has_work first.right ≡ b → Sided (not b) first
    go false e = plain_from_test first.right e
    go true e = elim h [
      | inl p ↦ plain_from_test first.left p
      | inr p ↦ absurd cc
    ]

pow3-power : (n : ℕ) → pow3 n ≡ 3 ^ n
pow3-power zero = refl
pow3-power (suc n) = let h = pow3-power n in let e = pow-succ' 3 n in omega arith

-- as many visits as a listing without a limit has are enough
pub enough_at_first : (a b : List WSym) (values : Pairs) → weights (side_of (record { left = a; right = b; values = values })) (record { left = a; right = b; values = values } ∷ []) ≤ 3 ^ (length a + length b)
enough_at_first a b values = go (side_of (record { left = a; right = b; values = values }))
  where
    go : (s : Bool) → weights s (record { left = a; right = b; values = values } ∷ []) ≤ 3 ^ (length a + length b)
    go true =
        let k = sum_by-cons (weight true) (record { left = a; right = b; values = values }) [] in
        let p = pow3-le (length (cut a b).1) (length a + length b) (let o = cut_right a b in omega arith) in
        let e = pow3-power (length a + length b) in
        omega arith
    go false =
        let k = sum_by-cons (weight false) (record { left = a; right = b; values = values }) [] in
        let p = pow3-le (length (cut a b).0) (length a + length b) (let o = cut_left a b in omega arith) in
        let e = pow3-power (length a + length b) in
        omega arith

pub weight-pos : (b : Bool) (node : Node) → 0 < weight b node
weight-pos true node = pow3-pos (length (cut node.left node.right).1)
weight-pos false node = pow3-pos (length (cut node.left node.right).0)

suc_add : (n m : ℕ) → suc n + m ≡ suc (n + m)
suc_add n m = omega arith

-- as many visits as the nodes weigh are enough
pub enough_visits : (rule : Forbidden) (b : Bool) (n : ℕ) (nodes : List Node) → AllByRecursion (Sided b) nodes → weights b nodes ≤ n → (explore rule n nodes).ended ≡ Trials → ⊥
unfolding explore
enough_visits rule b n [] s h e = cc
enough_visits rule b zero (node ∷ rest) s h e = let k = sum_by-cons (weight b) node rest in let p = weight-pos b node in omega arith
enough_visits rule b (suc n) (node ∷ rest) s h e =
    let v = lighter_visit rule b node s.0 in
    let v1 = v.1 in
    let a = sum_by-append (weight b) (visit rule node).children rest in
    let k = sum_by-cons (weight b) node rest in
    go (is_too_long node) e (enough_visits rule b n ((visit rule node).children ++ rest) (AllByRecursion-append (Sided b) (visit rule node).children rest v.0 s.1) (omega arith))
  where
    later : Answer
    later = explore rule n ((visit rule node).children ++ rest)

    go : (t : Bool) → (unless_long t (visit rule node).found later).ended ≡ Trials → (later.ended ≡ Trials → ⊥) → ⊥
    go true f ih = cc
    go false f ih = ih f

-- further visits change nothing
pub more_visits : (rule : Forbidden) (n m : ℕ) (nodes : List Node) → ((explore rule n nodes).ended ≡ Trials → ⊥) → explore rule (n + m) nodes ≡ explore rule n nodes
unfolding explore
more_visits rule n m [] h = refl
more_visits rule zero m (node ∷ rest) h = absurd (h refl)
more_visits rule (suc n) m (node ∷ rest) h =
    rw (suc_add n m) (go (is_too_long node) h (more_visits rule n m ((visit rule node).children ++ rest)))
  where
    later : Answer
    later = explore rule n ((visit rule node).children ++ rest)

    go : (t : Bool) → ((unless_long t (visit rule node).found later).ended ≡ Trials → ⊥) → ((later.ended ≡ Trials → ⊥) → explore rule (n + m) ((visit rule node).children ++ rest) ≡ later) →
        unless_long t (visit rule node).found (explore rule (n + m) ((visit rule node).children ++ rest)) ≡ unless_long t (visit rule node).found later
    go true f ih = refl
    go false f ih = ap (after (visit rule node).found) (ih f)
