-- Against a string without work variables the list of unifiers is in order: shortest values first, leftmost variable first.
use Rattle.std.proofs.Common.{ℕ, zero, suc, ◌≡◌, List, [], ◌∷◌, ◌++◌, Bool, true, false, ◌||◌, map, refl, sym, ap, ◌∙◌, subst, inl, inr, ◌⊎◌, arith, append_assoc}
use Rattle.std.specs.List.{AllPairs, AllByRecursion, list_any}
use Rattle.std.proofs.lemmas.List.Elements.{All-from_recursion}
use Rattle.std.proofs.lemmas.List.Kept.{AllPairs-cons}
use Rattle.std.proofs.lemmas.Bool.{cond_both}
use Rattle.mm_subst.specs.declared.symbol.WSym.{WSym}
use Rattle.mm_subst.specs.declared.symbol.WSym.TheVariants.{Const, Var, Work}
use Rattle.mm_subst.specs.Symbols.{is_work}
use Rattle.mm_subst.specs.Substitutions.{Pairs, value_of, applied, with_values}
use Rattle.mm_subst.proofs.Replaced.{applied-append, applied-empty}
use Rattle.mm_unify.specs.Forbidden.{Forbidden, forbidden_by}
use Rattle.mm_unify.specs.Ordering.{IsBefore, ListsInOrder}
use Rattle.mm_unify.specs.Search.{Node, Visit, Answer, dead_end, cut, falls_short, child, steps, visit, visit_cut, explore, is_too_long, unless_long, root, roots, selves}
use Rattle.mm_unify.specs.Variables.{numbers}
use Rattle.mm_unify.proofs.Mapping.{behind}
use Rattle.mm_unify.proofs.Proper.{Good, good_behind}
use Rattle.mm_unify.proofs.Cut.{cut_front}
use Rattle.mm_unify.proofs.Lists.{AllByRecursion-append}
use Rattle.mm_unify.proofs.Root.{Numbered, numbered, numbered_left}
use Rattle.mm_unify.proofs.Balanced.{Plain, SomeOf, plain_left, plain_right, plain_apply, step_plain}
use Rattle.mm_unify.proofs.Sound.{keys, keys-step, stepped_apply, selves_apply, selves_string, faithful_root}
use Rattle.mm_unify.proofs.Weight.{plain_from_test}
use Rattle.mm_unify.proofs.Mirror.{roots-mirror}
use Rattle.mm_unify.proofs.Apart.{IsSoFar, Through, through_step, so_far_step, apart}

module _ (a b : List WSym) where
  abbrev ms : List ℕ
  ms = numbers (a ++ b)

  numbered_here : Numbered ms a
  numbered_here = numbered_left ms a b (numbered (a ++ b))

  -- a node of the search: what is left of a stands behind a front without work variables
  record Stands (values : Pairs) (l r : List WSym) : Type 0 where
    keys_are : keys values ≡ map Work ms
    so_far : AllByRecursion (λ c. IsSoFar c (value_of values c)) a
    front : List WSym
    plain : Plain front
    whole : applied values a ≡ front ++ l
    right : Plain r

  abbrev StandsAt : Node → Type 0
  StandsAt node = Stands node.values node.left node.right

  -- a unifier that is reached from some values
  record Below (values u : Pairs) : Type 0 where
    phi : Pairs
    good : Good phi
    through : Through a values phi u

  below_child : (x y : WSym) (t : List WSym) (values u : Pairs) → is_work x ≡ true → keys values ≡ map Work ms → Below (with_values ((x, y ∷ t) ∷ []) values) u → Below values u
  below_child x y t values u w k h = record {
    phi = behind h.phi x (y ∷ t);
    good = good_behind h.phi x y t h.good w;
    through = through_step (x, y ∷ t) values h.phi u ms w k a numbered_here h.through;
  }

  below_itself : (values : Pairs) → Below values values
  below_itself values = record { phi = []; good = tt; through = same a }
    where
      same : (s : List WSym) → Through s values [] values
      same [] = tt
      same (c ∷ s) = (sym (applied-empty (value_of values c)), same s)

  stands_child : (x y : WSym) (t l r : List WSym) (values : Pairs) → is_work x ≡ true → is_work y ≡ false → (t ≡ []) ⊎ (t ≡ x ∷ []) → Stands values (x ∷ l) (y ∷ r) → StandsAt (child (x ∷ l) (y ∷ r) values (x, y ∷ t))
  stands_child x y t l r values w f o h =
      let p = (x, y ∷ t) ∷ [] in
      record {
        keys_are = keys-step (x, y ∷ t) values ∙ h.keys_are;
        so_far = so_far_step x y w f values ms t o h.keys_are a numbered_here h.so_far;
        front = h.front;
        plain = h.plain;
        whole = stepped_apply (x, y ∷ t) values ms w h.keys_are a numbered_here
            ∙ ap (applied p) h.whole
            ∙ applied-append p h.front (x ∷ l)
            ∙ ap (λ s. s ++ applied p (x ∷ l)) (plain_apply p h.front (step_plain (x, y ∷ t) w) h.plain);
        right = subst Plain (sym (plain_apply p (y ∷ r) (step_plain (x, y ∷ t) w) h.right)) h.right;
      }

  stands_rest : (values : Pairs) (q l r l' r' : List WSym) → l ≡ q ++ l' → r ≡ q ++ r' → Stands values l r → Stands values l' r'
  stands_rest values q l r l' r' e f h =
      let p : Plain (q ++ r') = subst Plain f h.right in
      record {
        keys_are = h.keys_are;
        so_far = h.so_far;
        front = h.front ++ q;
        plain = AllByRecursion-append (λ c. is_work c ≡ false) h.front q h.plain (plain_left q r' p);
        whole = h.whole ∙ ap (λ s. h.front ++ s) e ∙ sym (append_assoc h.front q l');
        right = plain_right q r' p;
      }

  -- all unifiers below some values stand before all below others
  abbrev Precedes : Pairs → Node → Type 0
  Precedes values node = (u v : Pairs) → Below values u → Below node.values v → IsBefore a u v

  abbrev AreOrdered : List Node → Type 0
  AreOrdered [] = Unit {0}
  AreOrdered (node ∷ nodes) = AllByRecursion (Precedes node.values) nodes × AreOrdered nodes

  abbrev AreReady : List Node → Type 0
  AreReady nodes = AllByRecursion StandsAt nodes × AreOrdered nodes

  abbrev AreInOrder : List Pairs → Type 0
  AreInOrder [] = Unit {0}
  AreInOrder (u ∷ us) = AllByRecursion (IsBefore a u) us × AreInOrder us

  -- unifiers in order, each below one of the nodes
  abbrev AreFound : List Node → List Pairs → Type 0
  AreFound nodes us = AllByRecursion (λ u. SomeOf (λ (node : Node). Below node.values u) nodes) us × AreInOrder us

  weaker : {X : Type 0} (P Q : X → Type 0) → ((x : X) → P x → Q x) → (xs : List X) → AllByRecursion P xs → AllByRecursion Q xs
  weaker P Q f [] h = tt
  weaker P Q f (x ∷ xs) h = (f x h.0, weaker P Q f xs h.1)

  before_some : (values u v : Pairs) (nodes : List Node) → Below values u → AllByRecursion (Precedes values) nodes → SomeOf (λ (node : Node). Below node.values v) nodes → IsBefore a u v
  before_some values u v [] h o s = absurd s
  before_some values u v (node ∷ nodes) h o (inl k) = o.0 u v h k
  before_some values u v (node ∷ nodes) h o (inr k) = before_some values u v nodes h o.1 k

  -- what a visit of the first node keeps
  abbrev Goes : Pairs → List Node → Visit → Type 0
  Goes values rest v = AreReady (v.children ++ rest) × ((us : List Pairs) → AreFound (v.children ++ rest) us → AllByRecursion (λ u. Below values u ⊎ SomeOf (λ (node : Node). Below node.values u) rest) (v.found ++ us) × AreInOrder (v.found ++ us))

  goes_dead : (values : Pairs) (rest : List Node) → AreReady rest → Goes values rest dead_end
  goes_dead values rest h = (
    h,
    (λ us f. (weaker (λ u. SomeOf (λ (node : Node). Below node.values u) rest) (λ u. Below values u ⊎ SomeOf (λ (node : Node). Below node.values u) rest) (λ u s. inr s) us f.0, f.1)),
  )

  goes_found : (values : Pairs) (rest : List Node) → AllByRecursion (Precedes values) rest → AreReady rest → Goes values rest (record { found = values ∷ []; children = [] })
  goes_found values rest o h = (
    h,
    (λ us f. (
      (inl (below_itself values), weaker (λ u. SomeOf (λ (node : Node). Below node.values u) rest) (λ u. Below values u ⊎ SomeOf (λ (node : Node). Below node.values u) rest) (λ u s. inr s) us f.0),
      (weaker (λ u. SomeOf (λ (node : Node). Below node.values u) rest) (IsBefore a values) (λ v s. before_some values values v rest (below_itself values) o s) us f.0, f.1),
    )),
  )

  module _ (x y : WSym) (l r : List WSym) (values : Pairs) (work : is_work x ≡ true) (fixed : is_work y ≡ false) (stands : Stands values (x ∷ l) (y ∷ r)) where
    abbrev one : Node
    one = child (x ∷ l) (y ∷ r) values (x, y ∷ [])

    abbrev two : Node
    two = child (x ∷ l) (y ∷ r) values (x, y ∷ x ∷ [])

    one_first : Precedes one.values two
    one_first u v h k =
        apart x y work fixed values u v h.phi k.phi h.good k.good a stands.front l stands.plain stands.whole stands.so_far
        (through_step (x, y ∷ []) values h.phi u ms work stands.keys_are a numbered_here h.through)
        (through_step (x, y ∷ x ∷ []) values k.phi v ms work stands.keys_are a numbered_here k.through)

    from_child : (t : List WSym) (rest : List Node) → AllByRecursion (Precedes values) rest → AllByRecursion (Precedes (with_values ((x, y ∷ t) ∷ []) values)) rest
    from_child t rest o =
        weaker (Precedes values) (Precedes (with_values ((x, y ∷ t) ∷ []) values)) (λ node p u v h k. p u v (below_child x y t values u work stands.keys_are h) k) rest o

    goes_on : (rest : List Node) → AllByRecursion (Precedes values) rest → AreReady rest → Goes values rest (record { found = []; children = one ∷ two ∷ [] })
    goes_on rest o h = (
      (
        (stands_child x y [] l r values work fixed (inl refl) stands, (stands_child x y (x ∷ []) l r values work fixed (inr refl) stands, h.0)),
        ((one_first, from_child [] rest o), (from_child (x ∷ []) rest o, h.1)),
      ),
      (λ us f. (weaker (λ u. SomeOf (λ (node : Node). Below node.values u) (one ∷ two ∷ rest)) (λ u. Below values u ⊎ SomeOf (λ (node : Node). Below node.values u) rest) back us f.0, f.1)),
    )
      where
        back : (u : Pairs) → SomeOf (λ (node : Node). Below node.values u) (one ∷ two ∷ rest) → Below values u ⊎ SomeOf (λ (node : Node). Below node.values u) rest
        back u (inl k) = inl (below_child x y [] values u work stands.keys_are k)
        back u (inr (inl k)) = inl (below_child x y (x ∷ []) values u work stands.keys_are k)
        back u (inr (inr k)) = inr k

  goes_steps : (x y : WSym) (l r : List WSym) (values : Pairs) (rest : List Node) → Stands values (x ∷ l) (y ∷ r) → AllByRecursion (Precedes values) rest → AreReady rest →
      Goes values rest (record { found = []; children = map (child (x ∷ l) (y ∷ r) values) (steps x y) })
  goes_steps x y l r values rest s o h = go (is_work x) refl
    where
      go : (w : Bool) → is_work x ≡ w → Goes values rest (record { found = []; children = map (child (x ∷ l) (y ∷ r) values) (steps x y) })
      go true e =
          let k : (x, y ∷ []) ∷ (x, y ∷ x ∷ []) ∷ [] ≡ steps x y = rw (e, s.right.0) refl in
          subst (λ ps. Goes values rest (record { found = []; children = map (child (x ∷ l) (y ∷ r) values) ps })) k (goes_on x y l r values e s.right.0 s rest o h)
      go false e =
          let k : [] ≡ steps x y = rw (e, s.right.0) refl in
          subst (λ ps. Goes values rest (record { found = []; children = map (child (x ∷ l) (y ∷ r) values) ps })) k (goes_dead values rest h)

  goes_cut : (rule : Forbidden) (values : Pairs) (l r : List WSym) (rest : List Node) → Stands values l r → AllByRecursion (Precedes values) rest → AreReady rest → Goes values rest (visit_cut rule values l r)
  goes_cut rule values [] [] rest s o h =
      cond_both (list_any (λ q. rule.at_end q.1) values) [] (values ∷ []) (λ f. Goes values rest (record { found = f; children = [] }))
      (λ e. goes_dead values rest h)
      (λ e. goes_found values rest o h)
  goes_cut rule values [] (y ∷ r) rest s o h = goes_dead values rest h
  goes_cut rule values (x ∷ l) [] rest s o h = goes_dead values rest h
  goes_cut rule values (x ∷ l) (y ∷ r) rest s o h =
      cond_both (falls_short (x ∷ l) (y ∷ r) || falls_short (y ∷ r) (x ∷ l) || list_any (λ q. rule.so_far q.1) values)
      dead_end (record { found = []; children = map (child (x ∷ l) (y ∷ r) values) (steps x y) }) (Goes values rest)
      (λ e. goes_dead values rest h)
      (λ e. goes_steps x y l r values rest s o h)

  goes_visit : (rule : Forbidden) (node : Node) (rest : List Node) → StandsAt node → AllByRecursion (Precedes node.values) rest → AreReady rest → Goes node.values rest (visit rule node)
  unfolding visit
  goes_visit rule node rest s o h =
      let c = cut_front node.left node.right in
      goes_cut rule node.values (cut node.left node.right).0 (cut node.left node.right).1 rest (stands_rest node.values c.0 node.left node.right (cut node.left node.right).0 (cut node.left node.right).1 c.1 c.2 s) o h

  found_in_order : (rule : Forbidden) (n : ℕ) (nodes : List Node) → AreReady nodes → AreFound nodes (explore rule n nodes).found
  unfolding explore
  found_in_order rule n [] h = (tt, tt)
  found_in_order rule zero (node ∷ rest) h = (tt, tt)
  found_in_order rule (suc n) (node ∷ rest) h =
      let g = goes_visit rule node rest h.0.0 h.1.0 (h.0.1, h.1.1) in
      go (is_too_long node) (g.1 later.found (found_in_order rule n ((visit rule node).children ++ rest) g.0))
    where
      later : Answer
      later = explore rule n ((visit rule node).children ++ rest)

      go : (t : Bool) → AreFound (node ∷ rest) ((visit rule node).found ++ later.found) → AreFound (node ∷ rest) (unless_long t (visit rule node).found later).found
      go true k = (tt, tt)
      go false k = k

  stands_root : Plain b → StandsAt (root a b)
  stands_root p = record {
    keys_are = (faithful_root a b).keys_are;
    so_far = own a;
    front = [];
    plain = tt;
    whole = selves_string ms a;
    right = p;
  }
    where
      alone : (c : WSym) → IsSoFar c (c ∷ [])
      alone (Work n) = inr ([], refl, tt, refl)
      alone (Const n) = inl (refl, tt)
      alone (Var n) = inl (refl, tt)

      own : (s : List WSym) → AllByRecursion (λ c. IsSoFar c (value_of (selves ms) c)) s
      own [] = tt
      own (c ∷ s) = (subst (IsSoFar c) (sym (selves_apply ms c)) (alone c), own s)

  pairs : (us : List Pairs) → AreInOrder us → AllPairs (IsBefore a) us
  pairs [] h = λ i j d lt small. absurd (omega arith)
  pairs (u ∷ us) h = AllPairs-cons (IsBefore a) u us (All-from_recursion (IsBefore a u) us h.0) (pairs us h.1)

  pub explored_in_order : (rule : Forbidden) (n : ℕ) → Plain b → AllPairs (IsBefore a) (explore rule n (roots a b)).found
  explored_in_order rule n p = pairs (explore rule n (roots a b)).found (found_in_order rule n (roots a b) ((stands_root p, tt), (tt, tt))).1

pub lists_in_order : ListsInOrder
lists_in_order o n a b h =
    let p = explored_in_order a b (forbidden_by o) n (plain_from_test b h) in
    (p, subst (λ (t : Answer). AllPairs (IsBefore a) t.found) (sym (roots-mirror (forbidden_by o) n a b (inr h))) p)
