-- A work variable alone against a string: its value is found symbol by symbol.
use Rattle.std.proofs.Common.{ℕ, zero, suc, ◌+◌, ◌*◌, ◌≡◌, ◌<◌, ◌≤◌, List, [], ◌∷◌, ◌++◌, true, false, cond, ◌||◌, map, length, refl, sym, ap, ◌∙◌, arith, append_assoc, length-append}
use Rattle.std.specs.Prelude.{nat_lt}
use Rattle.std.specs.List.{list_any}
use Rattle.std.proofs.lemmas.Bool.{or_from}
use Rattle.std.proofs.lemmas.List.{append-nil}
use Rattle.mm_subst.specs.declared.symbol.WSym.{WSym}
use Rattle.mm_subst.specs.Applied.{most_symbols}
use Rattle.mm_subst.specs.Symbols.{is_same, is_work}
use Rattle.mm_subst.specs.Substitutions.{Pairs, applied}
use Rattle.mm_subst.proofs.Keys.{is_same-itself}
use Rattle.mm_subst.proofs.Replaced.{applied-one, applied-append}
use Rattle.mm_unify.specs.declared.listing.Ended.TheVariants.{Whole}
use Rattle.mm_unify.specs.Forbidden.{Forbidden}
use Rattle.mm_unify.specs.Search.{Node, Visit, dead_end, cut, falls_short, child, steps, visit, visit_cut, explore, is_too_long, unless_long, after}
use Rattle.mm_unify.proofs.Mapping.{is_same-false, value_first}
use Rattle.mm_unify.proofs.Opened.{IsFair}
use Rattle.mm_unify.proofs.Explored.{alive_lengths}
use Rattle.mm_unify.proofs.Balanced.{Plain, plain_apply, step_plain}
use Rattle.mm_unify.proofs.Lists.{AllByRecursion-append}
use Rattle.mm_unify.proofs.Loop.{explore_none, explore_more}

pub cut-same : (q s t : List WSym) → cut (q ++ s) (q ++ t) ≡ cut s t
cut-same [] s t = refl
cut-same (c ∷ q) s t = rw (is_same-itself c) (cut-same q s t)

next : (rule : Forbidden) (n : ℕ) (node : Node) (rest : List Node) (v : Visit) → is_too_long node ≡ false → visit rule node ≡ v → explore rule (suc n) (node ∷ rest) ≡ after v.found (explore rule n (v.children ++ rest))
next rule n node rest v t e =
    explore_more rule n node rest
    ∙ ap (λ b. unless_long b (visit rule node).found (explore rule n ((visit rule node).children ++ rest))) t
    ∙ ap (λ w. after w.found (explore rule n (w.children ++ rest))) e

module _ (rule : Forbidden) (fair : IsFair rule) (x : WSym) (work : is_work x ≡ true) where
  abbrev stand : List WSym → List WSym → List WSym → Node
  stand q w r = record { left = q ++ x ∷ []; right = q ++ r; values = (x, w ++ x ∷ []) ∷ [] }

  apart : (y : WSym) → is_work y ≡ false → is_same x y ≡ false
  apart y e = is_same-false x y (λ k. let g = ap is_work k in cc)

  fits : (w : List WSym) → length w ≤ most_symbols → list_any (λ (q : WSym × List WSym). nat_lt most_symbols (length q.1)) ((x, w) ∷ []) ≡ false
  fits w h = grind arith

  end_is : (q w : List WSym) → visit rule (stand q w []) ≡ dead_end
  unfolding visit
  end_is q w = rw (cut-same q (x ∷ []) []) refl

  -- a string without work variables under a step
  kept : (y : WSym) (v s : List WSym) → Plain s → applied ((x, v) ∷ []) s ≡ s
  kept y v s p = plain_apply ((x, v) ∷ []) s (step_plain (x, v) work) p

  own : (v : List WSym) → applied ((x, v) ∷ []) (x ∷ []) ≡ v
  own v = applied-one ((x, v) ∷ []) x ∙ value_first (x, v) [] x (is_same-itself x)

  grown : (v w : List WSym) → Plain w → applied ((x, v) ∷ []) (w ++ x ∷ []) ≡ w ++ v
  grown v w p = applied-append ((x, v) ∷ []) w (x ∷ []) ∙ ap (λ t. t ++ applied ((x, v) ∷ []) (x ∷ [])) (kept x v w p) ∙ ap (λ t. w ++ t) (own v)

  child_is : (w : List WSym) (y : WSym) (r v : List WSym) → Plain w → Plain (y ∷ r) → child (x ∷ []) (y ∷ r) ((x, w ++ x ∷ []) ∷ []) (x, v) ≡ record { left = v; right = y ∷ r; values = (x, w ++ v) ∷ [] }
  child_is w y r v p o =
      ap (λ l. record { left = l; right = applied ((x, v) ∷ []) (y ∷ r); values = (x, applied ((x, v) ∷ []) (w ++ x ∷ [])) ∷ [] }) (own v)
      ∙ ap (λ t. record { left = v; right = t; values = (x, applied ((x, v) ∷ []) (w ++ x ∷ [])) ∷ [] }) (kept y v (y ∷ r) o)
      ∙ ap (λ t. record { left = v; right = y ∷ r; values = (x, t) ∷ [] }) (grown v w p)

  alive : (w : List WSym) (y : WSym) (r : List WSym) → Plain (y ∷ r) → rule.at_end (w ++ y ∷ r) ≡ false →
      (falls_short (x ∷ []) (y ∷ r) || falls_short (y ∷ r) (x ∷ []) || list_any (λ (q : WSym × List WSym). rule.so_far q.1) ((x, w ++ x ∷ []) ∷ [])) ≡ false
  alive w y r o h =
      let phi : Pairs = (x, y ∷ r) ∷ [] in
      let e : applied phi (x ∷ []) ≡ applied phi (y ∷ r) = own (y ∷ r) ∙ sym (kept y (y ∷ r) (y ∷ r) o) in
      let l = alive_lengths phi ((work, omega arith), tt) (x ∷ []) (y ∷ r) e in
      let s = fair.neutral w x work (fair.front w (y ∷ r) (fair.fair (w ++ y ∷ r) h)) in
      or_from (falls_short (x ∷ []) (y ∷ r) || falls_short (y ∷ r) (x ∷ [])) (list_any (λ (q : WSym × List WSym). rule.so_far q.1) ((x, w ++ x ∷ []) ∷ [])) l (ap (λ b. b || false) s)

  -- both children, the whole value first
  both_are : (q w : List WSym) (y : WSym) (r : List WSym) → Plain w → Plain (y ∷ r) → rule.at_end (w ++ y ∷ r) ≡ false →
      visit rule (stand q w (y ∷ r)) ≡ record { found = []; children = record { left = y ∷ []; right = y ∷ r; values = (x, w ++ y ∷ []) ∷ [] } ∷ record { left = y ∷ x ∷ []; right = y ∷ r; values = (x, w ++ y ∷ x ∷ []) ∷ [] } ∷ [] }
  unfolding visit
  both_are q w y r p o h =
      let c : cut (q ++ x ∷ []) (q ++ y ∷ r) ≡ (x ∷ [], y ∷ r) = cut-same q (x ∷ []) (y ∷ r) ∙ ap (λ b. cond b (cut [] r) (x ∷ [], y ∷ r)) (apart y o.0) in
      let values : Pairs = (x, w ++ x ∷ []) ∷ [] in
      let s : steps x y ≡ (x, y ∷ []) ∷ (x, y ∷ x ∷ []) ∷ [] = rw (work, o.0) refl in
      ap (λ t. visit_cut rule values t.0 t.1) c
      ∙ ap (λ b. cond b dead_end (record { found = []; children = map (child (x ∷ []) (y ∷ r) values) (steps x y) })) (alive w y r o h)
      ∙ ap (λ ps. record { found = []; children = map (child (x ∷ []) (y ∷ r) values) ps }) s
      ∙ ap (λ n. record { found = []; children = n ∷ child (x ∷ []) (y ∷ r) values (x, y ∷ x ∷ []) ∷ [] }) (child_is w y r (y ∷ []) p o)
      ∙ ap (λ n. record { found = []; children = record { left = y ∷ []; right = y ∷ r; values = (x, w ++ y ∷ []) ∷ [] } ∷ n ∷ [] }) (child_is w y r (y ∷ x ∷ []) p o)

  abbrev found_at : List WSym → List WSym → List Pairs
  found_at v [] = ((x, v) ∷ []) ∷ []
  found_at v (z ∷ r) = []

  whole_is : (v : List WSym) (y : WSym) (r : List WSym) → ((r ≡ []) → rule.at_end v ≡ false) → visit rule (record { left = y ∷ []; right = y ∷ r; values = (x, v) ∷ [] }) ≡ record { found = found_at v r; children = [] }
  unfolding visit
  whole_is v y [] h = rw (is_same-itself y, h refl) refl
  whole_is v y (z ∷ r) h = rw (is_same-itself y) refl

  abbrev pub found_of : List WSym → List WSym → List Pairs
  found_of w [] = []
  found_of w (y ∷ r) = ((x, w ++ y ∷ r) ∷ []) ∷ []

  joined : (w : List WSym) (y : WSym) (r : List WSym) → found_at (w ++ y ∷ []) r ++ found_of (w ++ y ∷ []) r ≡ found_of w (y ∷ r)
  joined w y [] = refl
  joined w y (z ∷ r) = ap (λ v. ((x, v) ∷ []) ∷ []) (append_assoc w (y ∷ []) (z ∷ r))

  pub alone : (r q w : List WSym) (n : ℕ) → Plain w → Plain r → length w + length r < most_symbols → rule.at_end (w ++ r) ≡ false → 1 + 2 * length r ≤ n →
      explore rule n (stand q w r ∷ []) ≡ record { found = found_of w r; visited = 1 + 2 * length r; ended = Whole }
  alone [] q w zero p o m h l = absurd (omega arith)
  alone [] q w (suc n) p o m h l =
      next rule n (stand q w []) [] dead_end (fits (w ++ x ∷ []) (omega (arith, length-append w (x ∷ [])))) (end_is q w) ∙ ap (after []) (explore_none rule n)
  alone (y ∷ r) q w zero p o m h l = absurd (omega arith)
  alone (y ∷ r) q w (suc zero) p o m h l = absurd (omega arith)
  alone (y ∷ r) q w (suc (suc n)) p o m h l =
      let v : List WSym = w ++ y ∷ [] in
      let assoc : v ++ r ≡ w ++ y ∷ r = append_assoc w (y ∷ []) r in
      let first : Node = record { left = y ∷ []; right = y ∷ r; values = (x, v) ∷ [] } in
      let long : List WSym = w ++ y ∷ x ∷ [] in
      let h' : rule.at_end (v ++ r) ≡ false = ap rule.at_end assoc ∙ h in
      let ih = alone r (y ∷ []) v n (AllByRecursion-append (λ c. is_work c ≡ false) w (y ∷ []) p (o.0, tt)) o.1 (omega (arith, length-append w (y ∷ []))) h' (omega arith) in
      let second : record { left = y ∷ x ∷ []; right = y ∷ r; values = (x, long) ∷ [] } ≡ stand (y ∷ []) v r = ap (λ u. record { left = y ∷ x ∷ []; right = y ∷ r; values = (x, u) ∷ [] }) (sym (append_assoc w (y ∷ []) (x ∷ []))) in
      let one = next rule (suc n) (stand q w (y ∷ r)) [] _ (fits (w ++ x ∷ []) (omega (arith, length-append w (x ∷ [])))) (both_are q w y r p o h) in
      let two = next rule n first (stand (y ∷ []) v r ∷ []) _ (fits v (omega (arith, length-append w (y ∷ [])))) (whole_is v y r (λ e. let k = ap (λ t. v ++ t) e in let k' = append-nil v in let k'' = ap rule.at_end (sym k' ∙ sym k) in k'' ∙ h')) in
      let count : (1 + 2 * length r) + 1 + 1 ≡ 1 + 2 * suc (length r) = omega arith in
      one
      ∙ ap (λ s. after [] (explore rule (suc n) (first ∷ s ∷ []))) second
      ∙ ap (after []) two
      ∙ ap (λ a. after [] (after (found_at v r) a)) ih
      ∙ ap (λ us. record { found = us; visited = (1 + 2 * length r) + 1 + 1; ended = Whole }) (joined w y r)
      ∙ ap (λ k. record { found = found_of w (y ∷ r); visited = k; ended = Whole }) count
