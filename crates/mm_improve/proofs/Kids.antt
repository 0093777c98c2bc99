-- The goals of the hypotheses of a use, by the goals of its match.
use Rattle.std.proofs.Common.{◌≡◌, ℕ, zero, suc, ◌≤◌, ◌<◌, List, [], ◌∷◌, Option, None, Some, Bool, true, false, cond, refl, sym, ◌∙◌, ap, arith, inl, inr, subst, length, get_or, map, if◌then◌else◌}
use Rattle.std.specs.List.{AllByRecursion}
use Rattle.std.proofs.lemmas.Bool.{le-leb, lt-leb}
use Rattle.std.proofs.lemmas.List.{length-map}
use Rattle.mm_scope.specs.Contents.{active_at}
use Rattle.mm_subst.specs.declared.symbol.WSym.{WSym}
use Rattle.mm_subst.specs.declared.symbol.WSym.TheVariants.{Const, Var, Work}
use Rattle.mm_subst.specs.Applied.{most_symbols}
use Rattle.mm_subst.specs.Symbols.{has_work}
use Rattle.mm_subst.specs.Substitutions.{Pairs, value_of, applied}
use Rattle.mm_unify.proofs.Sorted.{Among, among_mapped}
use Rattle.mm_plain.specs.Premises.{variables_for}
use Rattle.mm_chart.specs.Options.{or_else, on, first}
use Rattle.mm_improve.specs.Assertions.{Terms, plain_assertions, parts}
use Rattle.mm_chart.specs.Items as items
use Rattle.mm_chart.specs.Items.{Goal, Grammar, Use, Chosen, no_goal, value, by_use, serves, chosen, uses, uses_of, IsAnswer}
use Rattle.mm_improve.specs.Grammars.{joined, place, place_or_none, codes_for, order_for, assertion_of, grammar_of, sigma_of}
use Rattle.mm_improve.proofs.Forms.{IsPlainAssertion, IsStatedAs}
use Rattle.mm_chart.proofs.Ranks.{chosen-suc}
use Rattle.mm_improve.proofs.Limits.{first_among}
use Rattle.mm_improve.proofs.Linking.{use_match, use_items, seen, order, order_is, key_here}
use Rattle.mm_improve.proofs.Ranking as ranking
use Rattle.mm_improve.proofs.Ranking.{Within, AreWithin, values-within, within-at, among_flat}
use Rattle.mm_improve.proofs.Serving.{differ-in, applied-typed, parts_of, part-at, parts-length, goal-here, seen-length}
use Rattle.mm_improve.proofs.Translating.{goals, place-at}

-- the last step of a goal with a rank above 0 is by one of its uses
pub is_use : (G : Grammar) (g : Goal) (x : Chosen) → IsAnswer G g (Some x) → 0 < x.rank → Among (x.id, x.parts) (uses G g)
is_use G g x h l = by x.rank refl
  where
    pick : (r : ℕ) (o : Option Use) → first (serves (chosen G r)) (uses G g) ≡ o → on (by_use (suc r)) o ≡ Some x → Among (x.id, x.parts) (uses G g)
    pick r None e k = absurd (cc)
    pick r (Some u) e k =
        let q : by_use (suc r) u ≡ x = cc in
        subst (λ (y : Chosen). Among (y.id, y.parts) (uses G g)) q (first_among (serves (chosen G r)) (uses G g) u e).0

    by : (k : ℕ) → x.rank ≡ k → Among (x.id, x.parts) (uses G g)
    by zero e = absurd (omega (arith, e, l))
    by (suc r) e =
        let here : chosen G (suc r) g ≡ Some x = h (suc r) ∙ ap (λ (b : Bool). cond b (Some x) None) (le-leb x.rank (suc r) (omega (arith, e))) in
        let before : chosen G r g ≡ None = h r ∙ ap (λ (b : Bool). cond b (Some x) None) (lt-leb x.rank r (omega (arith, e))) in
        let us = uses G g in
        pick r (first (serves (chosen G r)) us) refl (sym (ap (λ (o : Option Chosen). or_else o (on (by_use (suc r)) (first (serves (chosen G r)) us))) before) ∙ sym (chosen-suc G r g) ∙ here)

-- the goal for a variable
abbrev pub goal_for : List ℕ → Use → ℕ → Goal
goal_for bytes u n = get_or u.1 (place_or_none (place (order_for bytes u.0) n)) no_goal

pub record AreKids (bytes : List ℕ) (u : Use) : Type 0 where
  pub goals : parts bytes u.0 (sigma_of bytes u.0 u.1) ≡ map (λ n. joined (goal_for bytes u n)) (variables_for bytes u.0)
  pub within : AllByRecursion (λ n. place_or_none (place (order_for bytes u.0) n) < length u.1) (variables_for bytes u.0)
  pub fit : (j : ℕ) → j < length u.1 → (has_work (joined (get_or u.1 j no_goal)) ≡ false) × (length (joined (get_or u.1 j no_goal)) ≤ most_symbols)

listed : (cs : List WSym) (ns : List ℕ) (F : ℕ → List WSym) (H : ℕ → List WSym) → length cs ≡ length ns → ((i : ℕ) → i < length ns → get_or cs i (Const 0) ∷ F (get_or ns i 0) ≡ H (get_or ns i 0)) → parts_of cs ns F ≡ map H ns
listed [] [] F H e h = refl
listed [] (n ∷ ns) F H e h = absurd (cc)
listed (c ∷ cs) [] F H e h = absurd (cc)
listed (c ∷ cs) (n ∷ ns) F H e h = ap (λ (w : List WSym). w ∷ parts_of cs ns F) (h 0 (omega arith)) ∙ ap (λ ws. H n ∷ ws) (listed cs ns F H (let z : length cs ≡ length ns = cc in z) (λ i l. h (suc i) (omega arith)))

module _ (c : Terms) (are_plain : (id : ℕ) → Among id (plain_assertions c) → IsPlainAssertion c.bytes id) (are_stated : (id : ℕ) → Among id (active_at c.bytes c.at) → IsStatedAs c.bytes id) where
  abbrev G : items.Grammar
  G = grammar_of c

  pub are_kids : (code : WSym) (t : List WSym) → (has_work (code ∷ t) ≡ false) × (length (code ∷ t) ≤ most_symbols) → (u : Use) → Among u (uses G (code, t)) → AreKids c.bytes u
  are_kids code t fit u h =
      let x = among_flat (uses_of G (code, t)) (map (assertion_of c.bytes) (plain_assertions c)) u h in
      let y = among_mapped (assertion_of c.bytes) x.0 (plain_assertions c) x.1 in
      let id = y.0 in
      let a = are_plain id y.1 in
      let k : Among u (uses_of G (code, t) (assertion_of c.bytes id)) = subst (λ z. Among u (uses_of G (code, t) z)) y.2 x.2 in
      let m = use_match c id a code t fit.0 fit.1 u k in
      let v = m.0 in
      let keys = variables_for c.bytes id in
      let codes = codes_for c.bytes id in
      let gs = goals keys codes v in
      let sigma = sigma_of c.bytes id gs in
      let o = order c id a code t fit.0 fit.1 in
      let same : order_for c.bytes id ≡ o = order_is c id a code t fit.0 fit.1 in
      let F : ℕ → List WSym = λ n. value gs (place_or_none (place o n)) in
      let is_seen = seen c id a code t fit.0 fit.1 v m.1 in
      let long : length gs ≡ length o = length-map v _ ∙ seen-length keys codes o v is_seen in
      let parts_are : parts c.bytes id sigma ≡ parts_of codes keys F =
      ap (map (applied sigma)) a.hypotheses
      ∙ applied-typed sigma codes keys F
      (ranking.all_weaker c are_plain are_stated (λ x. (m : ℕ) × (x ≡ Const m)) _ (λ x z. ap (value_of sigma) z.1 ∙ ranking.constants-stay c are_plain are_stated c.bytes id gs keys (λ n. value gs (place_or_none (place (order_for c.bytes id) n))) z.0 ∙ ap (λ (w : WSym). w ∷ []) (sym z.1)) codes a.constants)
      (ranking.places c are_plain are_stated (λ n. value_of sigma (Var n) ≡ F n) keys keys (λ i l.
      key_here c id a code t fit.0 fit.1 v (get_or keys i 0) i (a.own i l) ∙ ap (λ (z : List ℕ). value gs (place_or_none (place z (get_or keys i 0)))) same)) in
      let H : ℕ → List WSym = λ n. joined (get_or gs (place_or_none (place o n)) no_goal) in
      let inside : (j : ℕ) → j < length gs → Within t (get_or gs j no_goal).1 = λ j l.
      within-at t gs j l (subst (λ (z : Use). AreWithin t z.1) m.2 (values-within _ (assertion_of c.bytes id).items [] t t u.1 tt (record { short = omega arith; plain = λ z. z }) (use_items c id a code t fit.0 fit.1 u k))) in
      let kids : AreKids c.bytes (id, gs) = record {
        goals = parts_are ∙ listed codes keys F H a.as_many (λ i l.
            let n = get_or keys i 0 in
            let j = a.concluded n i (a.own i l) in
            let g = goal-here keys codes o v n i j.0 is_seen (a.own i l) j.1 in
            sym (ap joined (ap (λ (k : Option ℕ). get_or gs (place_or_none k) no_goal) j.1 ∙ g)))
            ∙ ap (λ (z : List ℕ). map (λ n. joined (get_or gs (place_or_none (place z n)) no_goal)) keys) (sym same);
        within = ranking.places c are_plain are_stated (λ n. place_or_none (place (order_for c.bytes id) n) < length gs) keys keys (λ i l.
            let n = get_or keys i 0 in
            let j = a.concluded n i (a.own i l) in
            let p = place-at o n j.0 j.1 in
            subst (λ (z : List ℕ). place_or_none (place z n) < length gs) (sym same) (subst (λ (k : Option ℕ). place_or_none k < length gs) (sym j.1) (subst (λ (k : ℕ). j.0 < k) (sym long) p.0)));
        fit = λ j l. let g = get_or gs j no_goal in ranking.goal_fit c are_plain are_stated code t g fit (ranking.code-plain c are_plain are_stated keys codes v j a.constants) (inside j l);
      } in
      subst (AreKids c.bytes) (sym m.2) kids
