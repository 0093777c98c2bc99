-- A step of a chosen proof, read off the table.
use Rattle.std.proofs.Common.{◌≡◌, ◌≤◌, ◌<◌, ℕ, zero, suc, Bool, true, false, cond, List, [], ◌∷◌, ◌++◌, Option, None, Some, map, length, get_or, ◌==◌, refl, sym, ◌∙◌, ap, arith, inl, inr, subst, if◌then◌else◌}
use Rattle.std.specs.List.{AllByRecursion}
use Rattle.std.proofs.lemmas.Bool.{cases_lt, le-leb, lt-leb, false≢true, true≢false, ne_eqb}
use Rattle.std.proofs.lemmas.List.{length-map}
use Rattle.mm_scope.specs.Contents.{labels_of}
use Rattle.mm_subst.specs.declared.symbol.WSym.{WSym}
use Rattle.mm_subst.specs.Applied.{most_symbols}
use Rattle.mm_subst.specs.Symbols.{is_same, has_work}
use Rattle.mm_unify.specs.Parts.{part}
use Rattle.mm_unify.proofs.Sorted.{Among, among_mapped}
use Rattle.mm_plain.specs.Premises.{variables_for}
use Rattle.mm_plain.specs.Shape.{known}
use Rattle.mm_chart.specs.declared.table.Part.{Part}
use Rattle.mm_chart.specs.Options.{is_there, on}
use Rattle.mm_improve.specs.Assertions.{Terms, plain_assertions, parts}
use Rattle.mm_improve.specs.Ranks as ranks
use Rattle.mm_chart.specs.Items.{Goal, Grammar, Assertion, Use, Chosen, chosen, limited, matches, fits, uses, uses_of, may_lead, no_goal}
use Rattle.mm_chart.specs.Charts.{Noted, Rows, meaning, entry_at, goal_of, goals_of, AreAnswersFor, ArePlaced}
use Rattle.mm_improve.specs.Grammars.{joined, place, place_or_none, order_for, assertion_of, grammar_of, sigma_of, chosen_by}
use Rattle.mm_improve.specs.Traces.{string_of, tree_at, IsRanked, IsOver, kids_of, no_part}
use Rattle.mm_improve.proofs.Agreeing.{VariablesDiffer, plain_usable, are_plain, are_stated}
use Rattle.mm_improve.proofs.Kids.{is_use, AreKids, are_kids, goal_for}
use Rattle.mm_improve.proofs.Leading.{leads}
use Rattle.mm_improve.proofs.Limited.{link}
use Rattle.mm_improve.proofs.Ranking.{among_flat}
use Rattle.mm_improve.proofs.Unfolding.{no_parts, parts_there, unfolds}

map-map : {X Y Z : Type 0} (f : Y → Z) (g : X → Y) (xs : List X) → map f (map g xs) ≡ map (λ x. f (g x)) xs
map-map f g [] = refl
map-map f g (x ∷ xs) = ap (λ ys. f (g x) ∷ ys) (map-map f g xs)

pub goal-at : (t : List WSym) (ps : List Part) (k : ℕ) → get_or (goals_of t ps) k no_goal ≡ goal_of t (get_or ps k no_part)
goal-at t [] k = refl
goal-at t (p ∷ ps) zero = refl
goal-at t (p ∷ ps) (suc k) = goal-at t ps k

use_id : (G : Grammar) (g : Goal) (a : Assertion) (u : Use) → Among u (uses_of G g a) → u.0 ≡ a.id
use_id G g a u h = by (is_same a.code g.0) h
  where
    by : (b : Bool) → Among u (cond b (map (λ v. (a.id, v)) (matches (fits G a.apart) a.items [] g.1)) []) → u.0 ≡ a.id
    by false k = absurd k
    by true k = ap (λ (x : Use). x.0) (among_mapped (λ v. (a.id, v)) u (matches (fits G a.apart) a.items [] g.1) k).2

module _ (c : Terms) (differ : VariablesDiffer c.bytes) (low : c.at < length (labels_of c.bytes)) (goal : WSym) (t : List WSym) (rows : Rows) (answers : AreAnswersFor (grammar_of c) goal t rows) (placed : ArePlaced t rows) where
  abbrev found : Noted → ranks.Chosen
  found e = chosen_by c.bytes (meaning t e)

  abbrev Entered : Part → Option Noted → Type 0
  Entered p o = entry_at rows p.from p.code p.to ≡ o

  -- what the table says of a part
  told : (p : Part) (o : Option Noted) → Entered p o → (r : ℕ) → IsRanked c r goal t p → (s : ℕ) → ranks.chosen c s (string_of t p) ≡ on (chosen_by c.bytes) (limited s (on (meaning t) o))
  told p o e r h s =
      link c differ low p.code (part t p.from p.to) (h.plain, h.short) s
      ∙ ap (on (chosen_by c.bytes)) (answers p.from p.to p.code h.leads h.ordered h.within s ∙ ap (λ o. limited s (on (meaning t) o)) e)

  pub missing : (p : Part) → Entered p None → (r : ℕ) → IsRanked c r goal t p → ⊥
  missing p e r h = false≢true (sym (ap is_there (told p None e r h r)) ∙ h.there)

  known_from : (p : Part) (e : Noted) → Entered p (Some e) → (r : ℕ) → IsRanked c r goal t p → (s : ℕ) → e.rank ≤ s → ranks.chosen c s (string_of t p) ≡ Some (found e)
  known_from p e q r h s l = told p (Some e) q r h s ∙ ap (λ (b : Bool). on (chosen_by c.bytes) (cond b (Some (meaning t e)) None)) (le-leb e.rank s l)

  low_rank : (p : Part) (e : Noted) → Entered p (Some e) → (r : ℕ) → IsRanked c r goal t p → e.rank ≤ r
  low_rank p e q r h = elim (cases_lt r e.rank) [
    | inl m ↦ absurd (false≢true (sym (ap is_there (told p (Some e) q r h r ∙ ap (λ (b : Bool). on (chosen_by c.bytes) (cond b (Some (meaning t e)) None)) (lt-leb e.rank r m))) ∙ h.there))
    | inr m ↦ m
  ]

  abbrev kid : Noted → ℕ → Part
  kid e n = get_or e.parts (place_or_none (place (order_for c.bytes e.id) n)) no_part

  abbrev use_of : Noted → Use
  use_of e = (e.id, goals_of t e.parts)

  -- the entry of an assertion
  is_used : (p : Part) (e : Noted) → Entered p (Some e) → may_lead (grammar_of c) goal p.code ≡ true → p.from < p.to → p.to ≤ length t → 0 < e.rank → Among (use_of e) (uses (grammar_of c) (goal_of t p))
  is_used p e q to o w l = is_use (grammar_of c) (goal_of t p) (meaning t e) (λ s. answers p.from p.to p.code to o w s ∙ ap (λ o. limited s (on (meaning t) o)) q) l

  pub own_entry : (p : Part) (e : Noted) → Entered p (Some e) → may_lead (grammar_of c) goal p.code ≡ true → p.from < p.to → p.to ≤ length t → 0 < e.rank → e.id < length (labels_of c.bytes)
  own_entry p e q to o w l =
      let x = among_flat (uses_of (grammar_of c) (goal_of t p)) (map (assertion_of c.bytes) (plain_assertions c)) (use_of e) (is_used p e q to o w l) in
      let y = among_mapped (assertion_of c.bytes) x.0 (plain_assertions c) x.1 in
      let i : e.id ≡ y.0 = use_id (grammar_of c) (goal_of t p) x.0 (use_of e) x.2 ∙ ap (λ (a : Assertion). a.id) y.2 in
      subst (λ k. k < length (labels_of c.bytes)) (sym i) (plain_usable c low y.0 y.1).0.own

  ranked_kids : (r : ℕ) (e : Noted) (i : ℕ) (code : WSym) (j : ℕ) → entry_at rows i code j ≡ Some e → AreKids c.bytes (use_of e) → ((m : ℕ) → m < length (goals_of t e.parts) → may_lead (grammar_of c) goal (get_or (goals_of t e.parts) m no_goal).0 ≡ true) → (ns : List ℕ) → AllByRecursion (λ n. place_or_none (place (order_for c.bytes e.id) n) < length (goals_of t e.parts)) ns →
      AllByRecursion (λ g. is_there (ranks.chosen c r g) ≡ true) (map (λ n. string_of t (kid e n)) ns) → AllByRecursion (IsRanked c r goal t) (map (kid e) ns)
  ranked_kids r e i code j q k to [] w h = tt
  ranked_kids r e i code j q k to (n ∷ ns) w h =
      let m = place_or_none (place (order_for c.bytes e.id) n) in
      let less : m < length e.parts = subst (λ x. m < x) (length-map e.parts (goal_of t)) w.0 in
      let a = (placed i j code e q).each m less no_part in
      let f = k.fit m w.0 in
      let same = ap joined (goal-at t e.parts m) in (
        record {
          ordered = a.0;
          within = a.1;
          plain = subst (λ s. has_work s ≡ false) same f.0;
          short = subst (λ s. length s ≤ most_symbols) same f.1;
          there = h.0;
          leads = subst (λ (g : Goal). may_lead (grammar_of c) goal g.0 ≡ true) (goal-at t e.parts m) (to m w.0);
        },
        ranked_kids r e i code j q k to ns w.1 h.1,
      )

  -- the tree of a part is a step of what its entry names, over the trees of the parts for its variables
  pub record IsLayer (r : ℕ) (p : Part) (e : Noted) : Type 0 where
    pub ranked : AllByRecursion (IsRanked c r goal t) (kids_of c.bytes e)
    pub is : tree_at c r t p ≡ known (string_of t p) e.id (chosen_by c.bytes (meaning t e)).use_.sigma (map (tree_at c r t) (kids_of c.bytes e))

  layer_none : (r : ℕ) (p : Part) (e : Noted) → Entered p (Some e) → IsRanked c r goal t p → e.rank ≡ 0 → IsLayer r p e
  layer_none r p e q h z =
      let g = string_of t p in
      let none = no_parts c g (found e) (known_from p e q r h 0 (omega (arith, z))) in
      let childless : kids_of c.bytes e ≡ [] = ap (λ (n : ℕ). if n == 0 then [] else map (kid e) (variables_for c.bytes e.id)) z in
      record {
        ranked = subst (AllByRecursion (IsRanked c r goal t)) (sym childless) tt;
        is = unfolds c r g (found e) (known_from p e q r h r (low_rank p e q r h)) ∙ ap (λ gs. known g e.id (found e).use_.sigma (map (ranks.tree c r) gs)) none
            ∙ sym (ap (λ (ks : List Part). known g e.id (found e).use_.sigma (map (tree_at c r t) ks)) childless);
      }

  layer_some : (r : ℕ) (p : Part) (e : Noted) → Entered p (Some e) → IsRanked c r goal t p → 0 < e.rank → IsLayer r p e
  layer_some r p e q h l =
      let g = string_of t p in
      let keys = variables_for c.bytes e.id in
      let x = found e in
      let above : (e.rank == 0) ≡ false = ne_eqb e.rank 0 (λ z. omega (arith, z, l)) in
      let kids_are : kids_of c.bytes e ≡ map (kid e) keys = ap (λ (b : Bool). if b then [] else map (kid e) keys) above in
      let sigma_is : x.use_.sigma ≡ sigma_of c.bytes e.id (goals_of t e.parts) = ap (λ (b : Bool). if b then [] else sigma_of c.bytes e.id (goals_of t e.parts)) above in
      let k = are_kids c (are_plain c differ low) (are_stated c low) p.code (part t p.from p.to) (h.plain, h.short) (use_of e) (is_used p e q h.leads h.ordered h.within l) in
      let goals_are : parts c.bytes e.id x.use_.sigma ≡ map (λ n. string_of t (kid e n)) keys =
      ap (parts c.bytes e.id) sigma_is ∙ k.goals ∙ same_each keys in
      let now = known_from p e q r h r (low_rank p e q r h) in
      record {
        ranked = subst (AllByRecursion (IsRanked c r goal t)) (sym kids_are) (ranked_kids r e p.from p.code p.to q k (leads (grammar_of c) (goal_of t p) (use_of e) goal (is_used p e q h.leads h.ordered h.within l)) keys k.within (subst (λ gs. AllByRecursion (λ g. is_there (ranks.chosen c r g) ≡ true) gs) goals_are (parts_there c r g x now)));
        is = unfolds c r g x now ∙ ap (λ gs. known g e.id x.use_.sigma (map (ranks.tree c r) gs)) goals_are
            ∙ ap (known g e.id x.use_.sigma) (map-map (ranks.tree c r) (λ n. string_of t (kid e n)) keys ∙ sym (map-map (tree_at c r t) (kid e) keys))
            ∙ sym (ap (λ (ks : List Part). known g e.id x.use_.sigma (map (tree_at c r t) ks)) kids_are);
      }
    where
      same_each : (ns : List ℕ) → map (λ n. joined (goal_for c.bytes (use_of e) n)) ns ≡ map (λ n. string_of t (kid e n)) ns
      same_each [] = refl
      same_each (n ∷ ns) = ap (λ s. s ∷ map (λ n. joined (goal_for c.bytes (use_of e) n)) ns) (ap joined (goal-at t e.parts (place_or_none (place (order_for c.bytes e.id) n)))) ∙ ap (λ ss. string_of t (kid e n) ∷ ss) (same_each ns)

  pub layer : (r : ℕ) (p : Part) (e : Noted) → Entered p (Some e) → IsRanked c r goal t p → IsLayer r p e
  layer r p e q h = by e.rank refl
    where
      by : (k : ℕ) → e.rank ≡ k → IsLayer r p e
      by zero z = layer_none r p e q h z
      by (suc k) z = layer_some r p e q h (omega (arith, z))

  pub over : (p : Part) (e : Noted) → Entered p (Some e) → (old new : List Part) → new ≡ old ++ kids_of c.bytes e → (r : ℕ) → IsRanked c r goal t p → IsOver c r goal t p old new
  over p e q old new a r h =
      let l = layer r p e q h in
      record {
        kids = kids_of c.bytes e;
        added = a;
        ranked = l.ranked;
        id = e.id;
        sigma = (found e).use_.sigma;
        is = l.is;
      }
