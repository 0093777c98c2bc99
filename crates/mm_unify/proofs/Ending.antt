-- Against a string that is not too long no value gets too long, and each value found is full and allowed.
use Rattle.std.proofs.Common.{ℕ, zero, suc, ◌≡◌, ◌≤◌, ◌<◌, ◌+◌, List, [], ◌∷◌, ◌++◌, Bool, true, false, cond, ◌||◌, ltb, map, length, refl, sym, ap, ◌∙◌, subst, inl, inr, ◌⊎◌, arith, length-append, append_assoc}
use Rattle.std.specs.List.{AllByRecursion, list_any}
use Rattle.std.proofs.lemmas.Bool.{cond_both, le-ltb}
use Rattle.mm_subst.specs.declared.symbol.WSym.{WSym}
use Rattle.mm_subst.specs.declared.symbol.WSym.TheVariants.{Work}
use Rattle.mm_subst.specs.Symbols.{is_same, is_work}
use Rattle.mm_subst.specs.Applied.{most_symbols}
use Rattle.mm_subst.specs.Substitutions.{Pairs, value_of, applied, with_values}
use Rattle.mm_subst.proofs.Replaced.{applied-append, applied-one, applied-cons}
use Rattle.mm_subst.proofs.Keys.{is_same-itself}
use Rattle.mm_unify.specs.Search.{Node, Answer, Visit, dead_end, cut, falls_short, child, steps, visit, visit_cut, explore, is_too_long, unless_long, root, roots, selves}
use Rattle.mm_unify.specs.Forbidden.{Forbidden}
use Rattle.mm_unify.specs.Variables.{numbers}
use Rattle.mm_unify.specs.declared.listing.Ended.{Ended}
use Rattle.mm_unify.specs.declared.listing.Ended.TheVariants.{Whole, Trials, Length}
use Rattle.mm_unify.proofs.Mapping.{value_cases, cases_same}
use Rattle.mm_unify.proofs.Lists.{AllByRecursion-append}
use Rattle.mm_unify.proofs.Balanced.{Plain, plain_right, plain_apply, step_plain}
use Rattle.mm_unify.proofs.Cut.{cut_front}

-- a value is full, and has no work variable but maybe at its end
abbrev Value : List WSym → Type 0
Value s = (p : List WSym) × (c : WSym) × Plain p × (0 < length s) × ((s ≡ p) ⊎ ((is_work c ≡ true) × (s ≡ p ++ c ∷ [])))

plain_push : (s : List WSym) (c : WSym) → Plain s → is_work c ≡ false → Plain (s ++ c ∷ [])
plain_push s c h e = AllByRecursion-append (λ c. is_work c ≡ false) s (c ∷ []) h (e, tt)

-- after a step it is longer by one at most
abbrev Grows : List WSym → List WSym → Type 0
Grows s t = Value t × (length t ≤ length s + 1)

grows : (y x : WSym) (t s : List WSym) → is_work y ≡ true → is_work x ≡ false → (t ≡ []) ⊎ (t ≡ y ∷ []) → Value s → Grows s (applied ((y, x ∷ t) ∷ []) s)
grows y x t s w f o (p, c, pp, full, inl e) =
    let q : Pairs = (y, x ∷ t) ∷ [] in
    let k : applied q s ≡ p = ap (applied q) e ∙ plain_apply q p (step_plain (y, x ∷ t) w) pp in
    let z : applied q s ≡ s = k ∙ sym e in
    (subst Value (sym z) (p, c, pp, full, inl e), (let n : length (applied q s) ≡ length s = ap length z in omega arith))
grows y x t s w f o (p, c, pp, full, inr (cw, e)) =
    let q : Pairs = (y, x ∷ t) ∷ [] in
    let base : applied q s ≡ p ++ value_of q c = ap (applied q) e ∙ applied-append q p (c ∷ []) ∙ ap (λ t. t ++ applied q (c ∷ [])) (plain_apply q p (step_plain (y, x ∷ t) w) pp) ∙ ap (λ t. p ++ t) (applied-one q c) in
    let l = ap length e in
    let m = length-append p (c ∷ []) in
    let go : (v : List WSym) → applied q s ≡ p ++ v → (v ≡ x ∷ t) ⊎ (v ≡ c ∷ []) → Grows s (applied q s) = λ v b h. elim h [
      | inl g ↦ elim o [
        | inl z ↦
            let r : applied q s ≡ p ++ x ∷ [] = b ∙ ap (λ u. p ++ u) (g ∙ ap (λ u. x ∷ u) z) in
            let n = ap length r ∙ length-append p (x ∷ []) in
            ((p ++ x ∷ [], c, plain_push p x pp f, omega arith, inl r), omega arith)
        | inr z ↦
            let r : applied q s ≡ (p ++ x ∷ []) ++ y ∷ [] = b ∙ ap (λ u. p ++ u) (g ∙ ap (λ u. x ∷ u) z) ∙ sym (append_assoc p (x ∷ []) (y ∷ [])) in
            let n = ap length r ∙ length-append (p ++ x ∷ []) (y ∷ []) in
            let k = length-append p (x ∷ []) in
            ((p ++ x ∷ [], y, plain_push p x pp f, omega arith, inr (w, r)), omega arith)
      ]
      | inr g ↦
          let r : applied q s ≡ s = b ∙ ap (λ u. p ++ u) g ∙ sym e in
          let n = ap length r in
          ((p, c, pp, omega arith, inr (cw, r ∙ e)), omega arith)
    ] in
    go (value_of q c) base (value_cases (y, x ∷ t) [] c (λ v. (v ≡ x ∷ t) ⊎ (v ≡ c ∷ [])) (λ h. inl refl) (λ h. inr refl))

cut_shorter : (l r : List WSym) → length (cut l r).0 ≤ length l
cut_shorter [] r = omega arith
cut_shorter (x ∷ l) [] = omega arith
cut_shorter (x ∷ l) (y ∷ r) = let ih = cut_shorter l r in cond_both (is_same x y) (cut l r) (x ∷ l, y ∷ r) (λ z. length z.0 ≤ suc (length l)) (λ e. omega arith) (λ e. omega arith)

-- the values with what is left are not longer than n
abbrev Short : ℕ → Pairs → List WSym → Type 0
Short n values l = AllByRecursion (λ q. Value q.1 × (length q.1 + length l ≤ n)) values

record Small (n : ℕ) (node : Node) : Type 0 where
  plain : Plain node.left
  short : Short n node.values (cut node.left node.right).0

-- each value is full and not forbidden at its end
abbrev pub IsFine : Forbidden → Pairs → Type 0
IsFine f u = AllByRecursion (λ q. (0 < length q.1) × (f.at_end q.1 ≡ false)) u

shorter_values : (n : ℕ) (y x : WSym) (t l m : List WSym) (values : Pairs) → is_work y ≡ true → is_work x ≡ false → (t ≡ []) ⊎ (t ≡ y ∷ []) → length m ≤ length l → Short n values (x ∷ l) → Short n (with_values ((y, x ∷ t) ∷ []) values) m
shorter_values n y x t l m [] w f o h s = tt
shorter_values n y x t l m (q ∷ values) w f o h s =
    let g = grows y x t q.1 w f o s.0.0 in
    let a = g.1 in
    let b = s.0.1 in
    ((g.0, omega arith), shorter_values n y x t l m values w f o h s.1)

small_child : (n : ℕ) (x y : WSym) (t l r : List WSym) (values : Pairs) → is_work y ≡ true → Plain (x ∷ l) → (t ≡ []) ⊎ (t ≡ y ∷ []) → Short n values (x ∷ l) → Small n (child (x ∷ l) (y ∷ r) values (y, x ∷ t))
small_child n x y t l r values w p o s =
    let q : Pairs = (y, x ∷ t) ∷ [] in
    let a : applied q (x ∷ l) ≡ x ∷ l = plain_apply q (x ∷ l) (step_plain (y, x ∷ t) w) p in
    let own : value_of q y ≡ x ∷ t = value_cases (y, x ∷ t) [] y (λ v. v ≡ x ∷ t) (λ e. refl) (λ e. let z = is_same-itself y in absurd cc) in
    let b : applied q (y ∷ r) ≡ x ∷ (t ++ applied q r) = applied-cons q y r ∙ ap (λ v. v ++ applied q r) own in
    let c : cut (applied q (x ∷ l)) (applied q (y ∷ r)) ≡ cut l (t ++ applied q r) = ap (λ u. cut u (applied q (y ∷ r))) a ∙ ap (cut (x ∷ l)) b ∙ ap (λ (k : Bool). cond k (cut l (t ++ applied q r)) (x ∷ l, x ∷ (t ++ applied q r))) (is_same-itself x) in
    record {
      plain = subst Plain (sym a) p;
      short = shorter_values n y x t l (cut (applied q (x ∷ l)) (applied q (y ∷ r))).0 values w p.0 o (subst (λ (z : List WSym × List WSym). length z.0 ≤ length l) (sym c) (cut_shorter l (t ++ applied q r))) s;
    }

step_pairs : (x y : WSym) (P : List (WSym × List WSym) → Type 0) → is_work x ≡ false → (is_work y ≡ true → P ((y, x ∷ []) ∷ (y, x ∷ y ∷ []) ∷ [])) → (is_work y ≡ false → P []) → P (steps x y)
step_pairs x y P e f g =
    subst (λ (t : Bool). P (cond t ((x, y ∷ []) ∷ (x, y ∷ x ∷ []) ∷ cond (is_work y) ((y, x ∷ y ∷ []) ∷ []) []) (cond (is_work y) ((y, x ∷ []) ∷ (y, x ∷ y ∷ []) ∷ []) []))) (sym e)
    (cond_both (is_work y) ((y, x ∷ []) ∷ (y, x ∷ y ∷ []) ∷ []) [] P f g)

-- what a visit gives
abbrev Gives : Forbidden → ℕ → Visit → Type 0
Gives f n v = AllByRecursion (Small n) v.children × AllByRecursion (IsFine f) v.found

none_any : {X : Type 0} (p : X → Bool) (x : X) (xs : List X) → list_any p (x ∷ xs) ≡ false → (p x ≡ false) × (list_any p xs ≡ false)
none_any p x xs h = go (p x) refl
  where
    go : (b : Bool) → p x ≡ b → (p x ≡ false) × (list_any p xs ≡ false)
    go true e = absurd (let z : list_any p (x ∷ xs) ≡ true = rw e refl in cc)
    go false e = (e, sym (rw e refl) ∙ h)

fine_values : (f : Forbidden) (n : ℕ) (l : List WSym) (values : Pairs) → Short n values l → list_any (λ q. f.at_end q.1) values ≡ false → IsFine f values
fine_values f n l [] s h = tt
fine_values f n l (q ∷ values) s h = let k = none_any (λ (q : WSym × List WSym). f.at_end q.1) q values h in let (p, c, pp, full, o) = s.0.0 in ((full, k.0), fine_values f n l values s.1 k.1)

gives_cut : (f : Forbidden) (n : ℕ) (values : Pairs) (l r : List WSym) → Plain l → Short n values l → Gives f n (visit_cut f values l r)
gives_cut f n values [] [] p s =
    (tt, cond_both (list_any (λ q. f.at_end q.1) values) [] (values ∷ []) (AllByRecursion (IsFine f)) (λ e. tt) (λ e. (fine_values f n [] values s e, tt)))
gives_cut f n values [] (y ∷ r) p s = (tt, tt)
gives_cut f n values (x ∷ l) [] p s = (tt, tt)
gives_cut f n values (x ∷ l) (y ∷ r) p s =
    cond_both (falls_short (x ∷ l) (y ∷ r) || falls_short (y ∷ r) (x ∷ l) || list_any (λ q. f.so_far q.1) values)
    dead_end
    (record { found = []; children = map (child (x ∷ l) (y ∷ r) values) (steps x y) })
    (Gives f n) (λ e. (tt, tt))
    (λ e. (
      step_pairs x y (λ ps. AllByRecursion (Small n) (map (child (x ∷ l) (y ∷ r) values) ps)) p.0
          (λ w. (small_child n x y [] l r values w p (inl refl) s, (small_child n x y (y ∷ []) l r values w p (inr refl) s, tt)))
          (λ w. tt),
      tt,
    ))

-- a node that may be visited, and what that gives
record Ready (f : Forbidden) (n : ℕ) (node : Node) : Type 0 where
  short : is_too_long node ≡ false
  gives : Gives f n (visit f node)

not_long : (n : ℕ) (l : List WSym) (values : Pairs) → n ≤ most_symbols → Short n values l → list_any (λ q. ltb most_symbols (length q.1)) values ≡ false
not_long n l [] h s = refl
not_long n l (q ∷ values) h s = let a = s.0.1 in rw (le-ltb most_symbols (length q.1) (omega arith)) (not_long n l values h s.1)

small_ready : (f : Forbidden) (n : ℕ) (node : Node) → n ≤ most_symbols → Small n node → Ready f n node
unfolding visit
small_ready f n node h s =
    let c = cut_front node.left node.right in
    record {
      short = not_long n (cut node.left node.right).0 node.values h s.short;
      gives = gives_cut f n node.values (cut node.left node.right).0 (cut node.left node.right).1 (plain_right c.0 (cut node.left node.right).0 (subst Plain c.1 s.plain)) s.short;
    }

-- how the search ends, and what it finds
record Runs (f : Forbidden) (a : Answer) : Type 0 where
  ends : a.ended ≡ Length → ⊥
  fine : AllByRecursion (IsFine f) a.found

run_step : (f : Forbidden) (n k : ℕ) (node : Node) (rest : List Node) → Ready f n node → Runs f (explore f k ((visit f node).children ++ rest)) → Runs f (explore f (suc k) (node ∷ rest))
unfolding explore
run_step f n k node rest r h =
    subst (λ (t : Bool). Runs f (unless_long t (visit f node).found (explore f k ((visit f node).children ++ rest)))) (sym r.short)
    (record { ends = h.ends; fine = AllByRecursion-append (IsFine f) (visit f node).found (explore f k ((visit f node).children ++ rest)).found r.gives.1 h.fine })

run : (f : Forbidden) (n k : ℕ) (nodes : List Node) → n ≤ most_symbols → AllByRecursion (Small n) nodes → Runs f (explore f k nodes)
unfolding explore
run f n k [] h s = record { ends = λ e. cc; fine = tt }
run f n zero (node ∷ rest) h s = record { ends = λ e. cc; fine = tt }
run f n (suc k) (node ∷ rest) h s =
    let r = small_ready f n node h s.0 in
    run_step f n k node rest r (run f n k ((visit f node).children ++ rest) h (AllByRecursion-append (Small n) (visit f node).children rest r.gives.0 s.1))

self_values : (n : ℕ) (l : List WSym) (ms : List ℕ) → length l + 1 ≤ n → Short n (selves ms) l
self_values n l [] h = tt
self_values n l (m ∷ ms) h = ((([], Work m, tt, omega arith, inr (refl, refl)), omega arith), self_values n l ms h)

-- the first node, where both strings begin with a symbol that is no work variable
root_ready : (f : Forbidden) (c d : WSym) (s b : List WSym) → Plain (c ∷ s) → is_work d ≡ false → length (c ∷ s) ≤ most_symbols → Ready f (length (c ∷ s)) (root (c ∷ s) (d ∷ b))
unfolding visit
root_ready f c d s b p e h = elim (cases_same c d) [
  | inl q ↦
      let k : is_same c d ≡ true = ap (is_same c) (sym q) ∙ is_same-itself c in
      let z : cut (c ∷ s) (d ∷ b) ≡ cut s b = ap (λ (t : Bool). cond t (cut s b) (c ∷ s, d ∷ b)) k in
      let l : length (cut (c ∷ s) (d ∷ b)).0 ≤ length s = subst (λ (y : List WSym × List WSym). length y.0 ≤ length s) (sym z) (cut_shorter s b) in
      small_ready f (length (c ∷ s)) (root (c ∷ s) (d ∷ b)) h (record { plain = p; short = self_values (length (c ∷ s)) (cut (c ∷ s) (d ∷ b)).0 (numbers ((c ∷ s) ++ d ∷ b)) (omega arith) })
  | inr k ↦
      let z : cut (c ∷ s) (d ∷ b) ≡ (c ∷ s, d ∷ b) = ap (λ (t : Bool). cond t (cut s b) (c ∷ s, d ∷ b)) k in
      let values = selves (numbers ((c ∷ s) ++ d ∷ b)) in
      record {
        short = not_long 1 [] values (omega arith) (self_values 1 [] (numbers ((c ∷ s) ++ d ∷ b)) (omega arith));
        gives = subst (λ (y : List WSym × List WSym). Gives f (length (c ∷ s)) (visit_cut f values y.0 y.1)) (sym z)
            (cond_both (falls_short (c ∷ s) (d ∷ b) || falls_short (d ∷ b) (c ∷ s) || list_any (λ q. f.so_far q.1) values)
            dead_end
            (record { found = []; children = map (child (c ∷ s) (d ∷ b) values) (steps c d) })
            (Gives f (length (c ∷ s))) (λ x. (tt, tt))
            (λ x. (step_pairs c d (λ ps. AllByRecursion (Small (length (c ∷ s))) (map (child (c ∷ s) (d ∷ b) values) ps)) p.0 (λ w. absurd (cc)) (λ w. tt), tt)));
      }
]

-- against an empty string nothing is found
empty_ready : (f : Forbidden) (d : WSym) (b : List WSym) → Ready f 0 (root [] (d ∷ b))
unfolding visit
empty_ready f d b = record {
  short = not_long 1 [] (selves (numbers (d ∷ b))) (omega arith) (self_values 1 [] (numbers (d ∷ b)) (omega arith));
  gives = (tt, tt);
}

from_root : (f : Forbidden) (n k : ℕ) (node : Node) → n ≤ most_symbols → Ready f n node → Runs f (explore f k (node ∷ []))
unfolding explore
from_root f n zero node h r = record { ends = λ e. cc; fine = tt }
from_root f n (suc k) node h r = run_step f n k node [] r (run f n k ((visit f node).children ++ []) h (AllByRecursion-append (Small n) (visit f node).children [] r.gives.0 tt))

pub runs : (f : Forbidden) (s : List WSym) (d : WSym) (b : List WSym) (k : ℕ) → Plain s → is_work d ≡ false → length s ≤ most_symbols → ((explore f k (roots s (d ∷ b))).ended ≡ Length → ⊥) × AllByRecursion (IsFine f) (explore f k (roots s (d ∷ b))).found
runs f [] d b k p e h = let r = from_root f 0 k (root [] (d ∷ b)) (omega arith) (empty_ready f d b) in (r.ends, r.fine)
runs f (c ∷ s) d b k p e h = let r = from_root f (length (c ∷ s)) k (root (c ∷ s) (d ∷ b)) h (root_ready f c d s b p e h) in (r.ends, r.fine)
