-- With brackets and one side free of work variables, a balanced unifying substitution is listed.
use Rattle.std.proofs.Common.{ℕ, zero, suc, ◌≡◌, List, [], ◌∷◌, ◌++◌, Bool, true, false, cond, ◌||◌, eqb, ltb, map, length, refl, sym, ap, ◌∙◌, subst, inl, inr, ◌⊎◌, arith, append_assoc}
use Rattle.std.specs.List.{AllByRecursion, list_any}
use Rattle.std.proofs.lemmas.Bool.{cond_both, or_from}
use Rattle.mm_subst.specs.declared.symbol.WSym.{WSym}
use Rattle.mm_subst.specs.declared.symbol.WSym.TheVariants.{Const, Var, Work}
use Rattle.mm_subst.specs.Symbols.{is_same, is_work}
use Rattle.mm_subst.specs.Substitutions.{Pairs, value_of, applied, with_values}
use Rattle.mm_unify.specs.Unifying.{Unifies}
use Rattle.mm_unify.specs.Search.{Node, Answer, cut, falls_short, child, steps, visit, visit_cut, explore, is_too_long, unless_long, root, selves}
use Rattle.mm_unify.specs.Forbidden.{Forbidden}
use Rattle.mm_unify.specs.Variables.{numbers, with_number}
use Rattle.mm_unify.specs.declared.listing.Ended.TheVariants.{Whole}
use Rattle.mm_subst.proofs.Replaced.{applied-append, applied-one}
use Rattle.mm_unify.proofs.Mapping.{is_same-false, value_first, value_later}
use Rattle.mm_unify.proofs.Proper.{Good, value_plain, full_after}
use Rattle.mm_unify.proofs.Opened.{IsFair}
use Rattle.mm_unify.proofs.Cut.{cut_front, HeadsDiffer, cut-HeadsDiffer}
use Rattle.mm_unify.proofs.Lists.{OneOf, AllByRecursion-append}
use Rattle.mm_unify.proofs.Cover.{Agrees, Covers, Determined}
use Rattle.mm_unify.proofs.Choice.{one_child, determined_children}
use Rattle.mm_unify.proofs.Explored.{without, determined_rest, alive_lengths}
use Rattle.mm_unify.proofs.Root.{Has, determined_root, covers_root}
use Rattle.mm_unify.proofs.Sound.{keys, Faithful, Solves, faithful_child, faithful_without, faithful_root, solved}
use Rattle.mm_unify.proofs.Once.{rising_numbers, at_numbers, at_pairs}

abbrev pub Plain : List WSym → Type 0
Plain s = AllByRecursion (λ c. is_work c ≡ false) s

pub plain_left : (s t : List WSym) → Plain (s ++ t) → Plain s
plain_left [] t h = tt
plain_left (c ∷ s) t h = (h.0, plain_left s t h.1)

pub plain_right : (s t : List WSym) → Plain (s ++ t) → Plain t
plain_right [] t h = h
plain_right (c ∷ s) t h = plain_right s t h.1

pub plain_apply : (phi : Pairs) (s : List WSym) → ((c : WSym) → is_work c ≡ false → value_of phi c ≡ c ∷ []) → Plain s → applied phi s ≡ s
unfolding applied
plain_apply phi [] h p = refl
plain_apply phi (c ∷ s) h p = let e = h c p.0 in let f = plain_apply phi s h p.1 in cc

-- some element has the property
abbrev pub SomeOf : {X : Type 0} → (X → Type 0) → List X → Type 0
SomeOf P [] = ⊥
SomeOf P (x ∷ xs) = P x ⊎ SomeOf P xs

some_one : {X : Type 0} (P : X → Type 0) (xs : List X) → OneOf P xs → SomeOf P xs
some_one P [] h = h
some_one P (x ∷ xs) (inl h) = inl h.0
some_one P (x ∷ xs) (inr h) = inr (some_one P xs h.1)

some_left : {X : Type 0} (P : X → Type 0) (xs ys : List X) → SomeOf P xs → SomeOf P (xs ++ ys)
some_left P [] ys h = absurd h
some_left P (x ∷ xs) ys (inl h) = inl h
some_left P (x ∷ xs) ys (inr h) = inr (some_left P xs ys h)

some_right : {X : Type 0} (P : X → Type 0) (xs ys : List X) → SomeOf P ys → SomeOf P (xs ++ ys)
some_right P [] ys h = h
some_right P (x ∷ xs) ys h = inr (some_right P xs ys h)

some_map : {X Y : Type 0} (P : X → Type 0) (R : X → Type 0) (Q : Y → Type 0) (f : X → Y) (xs : List X) → ((x : X) → P x → R x → Q (f x)) → SomeOf P xs → AllByRecursion R xs → SomeOf Q (map f xs)
some_map P R Q f [] h s r = absurd s
some_map P R Q f (x ∷ xs) h (inl p) r = inl (h x p r.0)
some_map P R Q f (x ∷ xs) h (inr s) r = inr (some_map P R Q f xs h s r.1)

any_false : {X : Type 0} (p : X → Bool) (xs : List X) → AllByRecursion (λ x. p x ≡ false) xs → list_any p xs ≡ false
any_false p [] h = refl
any_false p (x ∷ xs) h = rw h.0 (any_false p xs h.1)

-- a value is plain but for a work variable at its end
abbrev pub Front : List WSym → Type 0
Front s = (p : List WSym) × Plain p × ((s ≡ p) ⊎ ((c : WSym) × (is_work c ≡ true) × (s ≡ p ++ c ∷ [])))

front_hopeful : (rule : Forbidden) → IsFair rule → (phi : Pairs) → Good phi → (s : List WSym) → Front s → rule.so_far (applied phi s) ≡ false → rule.so_far s ≡ false
front_hopeful rule f phi g s (p, pp, inl e) h =
    rw e (let k = plain_apply phi p (λ c w. value_plain phi c g w) pp in subst (λ (t : List WSym). rule.so_far t ≡ false) (ap (applied phi) e ∙ k) h)
front_hopeful rule f phi g s (p, pp, inr (c, w, e)) h =
    rw e (f.neutral p c w (f.front p (applied phi (c ∷ []))
    (let k = plain_apply phi p (λ c w. value_plain phi c g w) pp in
    subst (λ (t : List WSym). rule.so_far t ≡ false) (ap (applied phi) e ∙ applied-append phi p (c ∷ []) ∙ ap (λ t. t ++ applied phi (c ∷ [])) k) h)))

-- the form of a step where one of the heads is plain
abbrev StepForm : WSym × List WSym → Type 0
StepForm p = (is_work p.0 ≡ true) × ((c : WSym) × (is_work c ≡ false) × ((p.1 ≡ c ∷ []) ⊎ (p.1 ≡ c ∷ p.0 ∷ [])))

step_forms : (x y : WSym) → (is_work x ≡ false) ⊎ (is_work y ≡ false) → AllByRecursion StepForm (steps x y)
step_forms x y h =
    cond_both (is_work x)
    ((x, y ∷ []) ∷ (x, y ∷ x ∷ []) ∷ cond (is_work y) ((y, x ∷ y ∷ []) ∷ []) [])
    (cond (is_work y) ((y, x ∷ []) ∷ (y, x ∷ y ∷ []) ∷ []) [])
    (λ ps. AllByRecursion StepForm ps)
    (λ e. cond_both (is_work y) ((y, x ∷ y ∷ []) ∷ []) [] (λ ps. AllByRecursion StepForm ((x, y ∷ []) ∷ (x, y ∷ x ∷ []) ∷ ps))
    (λ f. elim h [ inl i ↦ absurd cc | inr i ↦ absurd cc ])
    (λ f. ((e, (y, f, inl refl)), ((e, (y, f, inr refl)), tt))))
    (λ e. cond_both (is_work y) ((y, x ∷ []) ∷ (y, x ∷ y ∷ []) ∷ []) [] (λ ps. AllByRecursion StepForm ps)
    (λ f. ((f, (x, e, inl refl)), ((f, (x, e, inr refl)), tt))) (λ f. tt))

pub step_plain : (p : WSym × List WSym) → is_work p.0 ≡ true → (c : WSym) → is_work c ≡ false → value_of (p ∷ []) c ≡ c ∷ []
step_plain p w c e = value_later p [] c (is_same-false p.0 c (λ f. let g = ap is_work f in cc))

plain_push : (s : List WSym) (c : WSym) → Plain s → is_work c ≡ false → Plain (s ++ c ∷ [])
plain_push s c h e = AllByRecursion-append (λ c. is_work c ≡ false) s (c ∷ []) h (e, tt)

front_step : (p : WSym × List WSym) → StepForm p → (s : List WSym) → Front s → Front (applied (p ∷ []) s)
front_step p (w, form) s (f, fp, inl e) = (f, fp, inl (ap (applied (p ∷ [])) e ∙ plain_apply (p ∷ []) f (step_plain p w) fp))
front_step p (w, (c, cp, form)) s (f, fp, inr (d, dw, e)) = go (is_same p.0 d) refl form
  where
    base : applied (p ∷ []) s ≡ f ++ value_of (p ∷ []) d
    base = ap (applied (p ∷ [])) e ∙ applied-append (p ∷ []) f (d ∷ []) ∙ ap (λ t. t ++ applied (p ∷ []) (d ∷ [])) (plain_apply (p ∷ []) f (step_plain p w) fp) ∙ ap (λ t. f ++ t) (applied-one (p ∷ []) d)

    go : (b : Bool) → is_same p.0 d ≡ b → (p.1 ≡ c ∷ []) ⊎ (p.1 ≡ c ∷ p.0 ∷ []) → Front (applied (p ∷ []) s)
    go false k m = (f, fp, inr (d, dw, base ∙ ap (λ t. f ++ t) (value_later p [] d k)))
    go true k (inl m) = (f ++ c ∷ [], plain_push f c fp cp, inl (base ∙ ap (λ t. f ++ t) (value_first p [] d k ∙ m)))
    go true k (inr m) = (f ++ c ∷ [], plain_push f c fp cp, inr (p.0, w, base ∙ ap (λ t. f ++ t) (value_first p [] d k ∙ m) ∙ sym (append_assoc f (c ∷ []) (p.0 ∷ []))))

fronts_step : (p : WSym × List WSym) → StepForm p → (values : Pairs) → AllByRecursion (λ q. Front q.1) values → AllByRecursion (λ q. Front q.1) (with_values (p ∷ []) values)
fronts_step p f [] h = tt
fronts_step p f (q ∷ values) h = (front_step p f q.1 h.0, fronts_step p f values h.1)

abbrev OneSide : List WSym → List WSym → Type 0
OneSide a b = Plain a ⊎ Plain b

-- a balanced theta, on the numbers
abbrev pub Balanced : Forbidden → Pairs → List ℕ → Type 0
Balanced rule theta ms = (n : ℕ) → Has n ms → rule.at_end (value_of theta (Work n)) ≡ false

record Due (theta : Pairs) (a b : List WSym) (node : Node) : Type 0 where
  covers : Covers theta node
  determined : Determined node
  faithful : Faithful a b node
  fronts : AllByRecursion (λ q. Front q.1) node.values
  side : OneSide node.left node.right

-- the listed values are theta's
abbrev pub SameOn : Pairs → List ℕ → Pairs → Type 0
SameOn theta ms u = (n : ℕ) → Has n ms → value_of u (Work n) ≡ value_of theta (Work n)

-- every number is that of a work variable in the string
abbrev pub Occurs : ℕ → List WSym → Type 0
Occurs n s = SomeOf (λ c. c ≡ Work n) s

has_with : (k n : ℕ) (ms : List ℕ) → Has k (with_number n ms) → (k ≡ n) ⊎ Has k ms
has_with k n [] h = h
has_with k n (m ∷ ms) h = go (ltb n m) (eqb n m) h (has_with k n ms)
  where
    go : (s t : Bool) → Has k (cond s (n ∷ m ∷ ms) (cond t (m ∷ ms) (m ∷ with_number n ms))) → (Has k (with_number n ms) → (k ≡ n) ⊎ Has k ms) → (k ≡ n) ⊎ Has k (m ∷ ms)
    go true t h ih = h
    go false true h ih = inr h
    go false false (inl e) ih = inr (inl e)
    go false false (inr j) ih = elim (ih j) [ inl e ↦ inl e | inr i ↦ inr (inr i) ]

pub number_occurs : (s : List WSym) (n : ℕ) → Has n (numbers s) → Occurs n s
number_occurs [] n h = absurd h
number_occurs (Work m ∷ s) n h = elim (has_with n m (numbers s) h) [ inl e ↦ inl (ap Work (sym e)) | inr i ↦ inr (number_occurs s n i) ]
number_occurs (Const m ∷ s) n h = inr (number_occurs s n h)
number_occurs (Var m ∷ s) n h = inr (number_occurs s n h)

occurs_append : (a b : List WSym) (n : ℕ) → Occurs n (a ++ b) → Occurs n a ⊎ Occurs n b
occurs_append [] b n h = inr h
occurs_append (c ∷ a) b n (inl e) = inl (inl e)
occurs_append (c ∷ a) b n (inr h) = elim (occurs_append a b n h) [ inl i ↦ inl (inr i) | inr j ↦ inr j ]

not_plain : (s : List WSym) (n : ℕ) → Occurs n s → Plain s → ⊥
not_plain [] n h p = h
not_plain (c ∷ s) n (inl e) p = let f = ap is_work e in let g = p.0 in cc
not_plain (c ∷ s) n (inr h) p = not_plain s n h p.1

part_plain : (u : Pairs) (s : List WSym) (n : ℕ) → Occurs n s → Plain (applied u s) → Plain (value_of u (Work n))
unfolding applied
part_plain u [] n h p = absurd h
part_plain u (c ∷ s) n (inl e) p = subst (λ (d : WSym). Plain (value_of u d)) e (plain_left (value_of u c) (applied u s) p)
part_plain u (c ∷ s) n (inr h) p = part_plain u s n h (plain_right (value_of u c) (applied u s) p)

keyed_plain : (u : Pairs) (ms : List ℕ) → keys u ≡ map Work ms → (c : WSym) → is_work c ≡ false → value_of u c ≡ c ∷ []
keyed_plain [] ms e c p = refl
keyed_plain (q ∷ u) [] e c p = cc
keyed_plain (q ∷ u) (m ∷ ms) e c p =
    let a : q.0 ≡ Work m = cc in
    let b : keys u ≡ map Work ms = cc in
    value_later q u c (is_same-false q.0 c (λ f. let g = ap is_work f in let k = ap is_work a in cc)) ∙ keyed_plain u ms b c p

-- a unifier's values are plain, where one side is
values_plain : (a b : List WSym) (u : Pairs) → OneSide a b → Solves a b u → (n : ℕ) → Has n (numbers (a ++ b)) → Plain (value_of u (Work n))
values_plain a b u (inr p) h n k =
    elim (occurs_append a b n (number_occurs (a ++ b) n k)) [
      | inl i ↦ part_plain u a n i (subst Plain (sym (h.equal ∙ plain_apply u b (keyed_plain u (numbers (a ++ b)) h.keys_are) p)) p)
      | inr j ↦ absurd (not_plain b n j p)
    ]
values_plain a b u (inl p) h n k =
    elim (occurs_append a b n (number_occurs (a ++ b) n k)) [
      | inl i ↦ absurd (not_plain a n i p)
      | inr j ↦ part_plain u b n j (subst Plain (sym (sym h.equal ∙ plain_apply u a (keyed_plain u (numbers (a ++ b)) h.keys_are) p)) p)
    ]

module _ (rule : Forbidden) (fair : IsFair rule) (theta : Pairs) (a b : List WSym) (one : OneSide a b) (balanced : Balanced rule theta (numbers (a ++ b))) where
  abbrev Found : List Pairs → Type 0
  Found us = SomeOf (SameOn theta (numbers (a ++ b))) us

  -- a balanced value on each pair
  paired : (u : Pairs) → keys u ≡ map Work (numbers (a ++ b)) → AllByRecursion (λ q. rule.at_end (value_of theta q.0) ≡ false) u
  paired u e = at_pairs (λ c w. rule.at_end (value_of theta c) ≡ false) u (numbers (a ++ b)) e (rising_numbers (a ++ b)) balanced

  hopeful : (phi : Pairs) → Good phi → (values : Pairs) → Agrees theta phi values → AllByRecursion (λ q. rule.at_end (value_of theta q.0) ≡ false) values → AllByRecursion (λ q. Front q.1) values →
      AllByRecursion (λ q. rule.so_far q.1 ≡ false) values
  hopeful phi g [] e u f = tt
  hopeful phi g (q ∷ values) e u f =
      (front_hopeful rule fair phi g q.1 f.0 (subst (λ (t : List WSym). rule.so_far t ≡ false) e.0 (fair.fair (value_of theta q.0) u.0)), hopeful phi g values e.1 u.1 f.1)

  listable : (phi : Pairs) → Good phi → (values : Pairs) → Agrees theta phi values → AllByRecursion (λ q. rule.at_end (value_of theta q.0) ≡ false) values → AllByRecursion (λ q. Plain q.1) values →
      AllByRecursion (λ q. rule.at_end q.1 ≡ false) values × AllByRecursion (λ q. q.1 ≡ value_of theta q.0) values
  listable phi g [] e u p = (tt, tt)
  listable phi g (q ∷ values) e u p =
      let r = listable phi g values e.1 u.1 p.1 in
      let k : value_of theta q.0 ≡ q.1 = e.0 ∙ plain_apply phi q.1 (λ c w. value_plain phi c g w) p.0 in
      ((subst (λ (t : List WSym). rule.at_end t ≡ false) k u.0, r.0), (sym k, r.1))

  due_cut : (values : Pairs) (l r : List WSym) → HeadsDiffer l r → Due theta a b (record { left = l; right = r; values = values }) →
      Found (visit_cut rule values l r).found ⊎ SomeOf (Due theta a b) (visit_cut rule values l r).children
  unfolding applied
  due_cut values [] [] d h =
      let s = solved a b values h.faithful in
      let p = at_pairs (λ c w. Plain w) values (numbers (a ++ b)) s.keys_are (rising_numbers (a ++ b)) (values_plain a b values one s) in
      let k = listable h.covers.phi h.covers.good values h.covers.agrees (paired values s.keys_are) p in
      rw (any_false (λ q. rule.at_end q.1) values k.0)
      (inl (inl (at_numbers (λ c w. w ≡ value_of theta c) values (numbers (a ++ b)) s.keys_are k.1)))
  due_cut values [] (y ∷ r) d h = let k = full_after h.covers.phi y r h.covers.good in let n = ap length h.covers.equal in absurd (omega arith)
  due_cut values (x ∷ l) [] d h = let k = full_after h.covers.phi x l h.covers.good in let n = ap length h.covers.equal in absurd (omega arith)
  due_cut values (x ∷ l) (y ∷ r) d h =
      rw (or_from (falls_short (x ∷ l) (y ∷ r) || falls_short (y ∷ r) (x ∷ l)) (list_any (λ q. rule.so_far q.1) values)
      (alive_lengths h.covers.phi h.covers.good (x ∷ l) (y ∷ r) h.covers.equal)
      (any_false (λ q. rule.so_far q.1) values (hopeful h.covers.phi h.covers.good values h.covers.agrees (paired values h.faithful.keys_are) h.fronts)))
      (inr (some_map
      (λ p. Covers theta (child (x ∷ l) (y ∷ r) values p))
      (λ p. Determined (child (x ∷ l) (y ∷ r) values p) × StepForm p)
      (Due theta a b) (child (x ∷ l) (y ∷ r) values) (steps x y)
      (λ p c f. record {
        covers = c;
        determined = f.0;
        faithful = faithful_child a b (x ∷ l) (y ∷ r) values p f.1.0 h.faithful;
        fronts = fronts_step p f.1 values h.fronts;
        side = elim h.side [
          | inl s ↦ inl (subst Plain (sym (plain_apply (p ∷ []) (x ∷ l) (step_plain p f.1.0) s)) s)
          | inr s ↦ inr (subst Plain (sym (plain_apply (p ∷ []) (y ∷ r) (step_plain p f.1.0) s)) s)
        ];
      })
      (some_one (λ p. Covers theta (child (x ∷ l) (y ∷ r) values p)) (steps x y) (one_child theta x y l r values d h.determined h.covers))
      (both (steps x y) (determined_children [] x y l r values d h.determined) (step_forms x y (elim h.side [ inl s ↦ inl s.0 | inr s ↦ inr s.0 ])))))
    where
      both : (ps : List (WSym × List WSym)) → AllByRecursion (λ p. Determined (child (x ∷ l) (y ∷ r) values p)) ps → AllByRecursion StepForm ps →
          AllByRecursion (λ p. Determined (child (x ∷ l) (y ∷ r) values p) × StepForm p) ps
      both [] u v = tt
      both (p ∷ ps) u v = ((u.0, v.0), both ps u.1 v.1)

  due_visit : (node : Node) → Due theta a b node → Found (visit rule node).found ⊎ SomeOf (Due theta a b) (visit rule node).children
  unfolding visit
  due_visit node h =
      let c = cut_front node.left node.right in
      due_cut node.values (cut node.left node.right).0 (cut node.left node.right).1 (cut-HeadsDiffer node.left node.right) (record {
        covers = without theta node.left node.right c.0 (cut node.left node.right).0 (cut node.left node.right).1 node.values c.1 c.2 h.covers;
        determined = determined_rest node.left node.right c.0 (cut node.left node.right).0 (cut node.left node.right).1 node.values c.1 c.2 h.determined;
        faithful = faithful_without a b node.left node.right c.0 (cut node.left node.right).0 (cut node.left node.right).1 node.values c.1 c.2 h.faithful;
        fronts = h.fronts;
        side = elim h.side [
          | inl s ↦ inl (plain_right c.0 (cut node.left node.right).0 (subst Plain c.1 s))
          | inr s ↦ inr (plain_right c.0 (cut node.left node.right).1 (subst Plain c.2 s))
        ];
      })

  due_explored : (n : ℕ) (nodes : List Node) → SomeOf (Due theta a b) nodes → (explore rule n nodes).ended ≡ Whole → Found (explore rule n nodes).found
  unfolding explore
  due_explored n [] h e = absurd h
  due_explored zero (node ∷ rest) h e = cc
  due_explored (suc n) (node ∷ rest) h e = go (is_too_long node) e (λ k f. due_explored n ((visit rule node).children ++ rest) k f)
    where
      next : Answer
      next = explore rule n ((visit rule node).children ++ rest)

      later : (SomeOf (Due theta a b) ((visit rule node).children ++ rest) → Found next.found) → Due theta a b node ⊎ SomeOf (Due theta a b) rest → Found ((visit rule node).found ++ next.found)
      later ih (inl d) = elim (due_visit node d) [
        | inl f ↦ some_left (SameOn theta (numbers (a ++ b))) (visit rule node).found next.found f
        | inr s ↦ some_right (SameOn theta (numbers (a ++ b))) (visit rule node).found next.found (ih (some_left (Due theta a b) (visit rule node).children rest s))
      ]
      later ih (inr s) = some_right (SameOn theta (numbers (a ++ b))) (visit rule node).found next.found (ih (some_right (Due theta a b) (visit rule node).children rest s))

      go : (t : Bool) → (unless_long t (visit rule node).found next).ended ≡ Whole → (SomeOf (Due theta a b) ((visit rule node).children ++ rest) → next.ended ≡ Whole → Found next.found) →
          Found (unless_long t (visit rule node).found next).found
      go true f ih = cc
      go false f ih = later (λ k. ih k f) h

  fronts_root : (ms : List ℕ) → AllByRecursion (λ q. Front q.1) (selves ms)
  fronts_root [] = tt
  fronts_root (m ∷ ms) = (([], tt, inr (Work m, refl, refl)), fronts_root ms)

  -- the balanced theta is listed
  pub balanced_listed : (n : ℕ) → Unifies theta a b → (explore rule n (root a b ∷ [])).ended ≡ Whole → Found (explore rule n (root a b ∷ [])).found
  balanced_listed n h e = due_explored n (root a b ∷ []) (inl (record {
    covers = covers_root theta a b h;
    determined = determined_root a b;
    faithful = faithful_root a b;
    fronts = fronts_root (numbers (a ++ b));
    side = one;
  })) e
