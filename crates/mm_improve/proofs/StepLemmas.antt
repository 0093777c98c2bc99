-- The step of a part, with the values of its variables.
use Rattle.std.proofs.Common.{◌≡◌, ◌≤◌, ◌<◌, ◌+◌, ◌==◌, ℕ, zero, suc, Bool, true, false, List, [], ◌∷◌, ◌++◌, Option, None, Some, map, take, length, get_or, refl, sym, ◌∙◌, ap, arith, subst, if◌then◌else◌}
use Rattle.std.specs.Prelude.{◌||◌}
use Rattle.std.specs.List.{AllByRecursion, list_any}
use Rattle.std.proofs.lemmas.Bool.{true≢false}
use Rattle.std.proofs.lemmas.List.{length-map, take_all, take_more}
use Rattle.mm_scope.specs.Contents.{labels_of}
use Rattle.mm_scope.specs.Laws.{AllDiffer}
use Rattle.mm_subst.specs.declared.symbol.WSym.{WSym}
use Rattle.mm_subst.specs.declared.symbol.WSym.TheVariants.{Var}
use Rattle.mm_subst.specs.Substitutions.{Pairs, value_at, HasDistinctKeys}
use Rattle.mm_subst.specs.Symbols.{is_same}
use Rattle.mm_subst.proofs.Keys.{value_at-take}
use Rattle.mm_unify.specs.Parts.{part}
use Rattle.mm_plain.specs.Premises.{variables_for}
use Rattle.mm_plain.specs.Shape.{known}
use Rattle.mm_tree.proofs.FreshVariables.{variables-differ}
use Rattle.mm_chart.specs.declared.table.Part.{Part}
use Rattle.mm_improve.specs.Assertions.{Terms}
use Rattle.mm_chart.specs.Items.{Goal, value}
use Rattle.mm_chart.specs.Charts.{Noted, Rows, meaning, entry_at, goals_of, AreAnswersFor, ArePlaced}
use Rattle.mm_improve.specs.Grammars.{place, place_or_none, order_for, grammar_of, sigma_of, chosen_by}
use Rattle.mm_improve.specs.Steps.{IsStep, values_by}
use Rattle.mm_improve.specs.Traces.{string_of, tree_at, IsRanked, keys_of, kids_of, no_part}
use Rattle.mm_improve.proofs.Agreeing.{VariablesDiffer}
use Rattle.mm_improve.proofs.TraceLemmas.{goal-at, layer}

-- ## The values of the variables

value-at : (t : List WSym) (ps : List Part) (k : ℕ) → value (goals_of t ps) k ≡ part t (get_or ps k no_part).from (get_or ps k no_part).to
value-at t ps k = ap (λ (g : Goal). g.1) (goal-at t ps k)

zipped : (t : List WSym) (ps : List Part) (at : ℕ → ℕ) (ns : List ℕ) → values_by t ns (map (λ n. get_or ps (at n) no_part) ns) ≡ map (λ n. (Var n, value (goals_of t ps) (at n))) ns
zipped t ps at [] = refl
zipped t ps at (n ∷ ns) =
    ap (λ (w : List WSym). (Var n, w) ∷ values_by t ns (map (λ n. get_or ps (at n) no_part) ns)) (sym (value-at t ps (at n)))
    ∙ ap (λ (s : Pairs). (Var n, value (goals_of t ps) (at n)) ∷ s) (zipped t ps at ns)

values_are : (bytes : List ℕ) (t : List WSym) (e : Noted) → values_by t (keys_of bytes e) (kids_of bytes e) ≡ (chosen_by bytes (meaning t e)).use_.sigma
values_are bytes t e = by (e.rank == 0)
  where
    by : (b : Bool) → values_by t (if b then [] else variables_for bytes e.id) (if b then [] else map (λ n. get_or e.parts (place_or_none (place (order_for bytes e.id) n)) no_part) (variables_for bytes e.id)) ≡ (if b then [] else sigma_of bytes e.id (goals_of t e.parts))
    by true = refl
    by false = zipped t e.parts (λ n. place_or_none (place (order_for bytes e.id) n)) (variables_for bytes e.id)

as_many : (bytes : List ℕ) (e : Noted) → length (kids_of bytes e) ≡ length (keys_of bytes e)
as_many bytes e = by (e.rank == 0)
  where
    by : (b : Bool) → length (if b then [] else map (λ n. get_or e.parts (place_or_none (place (order_for bytes e.id) n)) no_part) (variables_for bytes e.id)) ≡ length (if b then [] else variables_for bytes e.id)
    by true = refl
    by false = length-map (variables_for bytes e.id) (λ n. get_or e.parts (place_or_none (place (order_for bytes e.id) n)) no_part)

keys-differ : (bytes : List ℕ) → VariablesDiffer bytes → (e : Noted) → AllDiffer (keys_of bytes e)
keys-differ bytes differ e = by (e.rank == 0)
  where
    by : (b : Bool) → AllDiffer (if b then [] else variables_for bytes e.id)
    by true = tt
    by false = variables-differ bytes e.id (differ e.id)

pub step : (c : Terms) (differ : VariablesDiffer c.bytes) (low : c.at < length (labels_of c.bytes)) (goal : WSym) (t : List WSym) (rows : Rows) (answers : AreAnswersFor (grammar_of c) goal t rows) (placed : ArePlaced t rows) →
    (r : ℕ) (p : Part) (e : Noted) → entry_at rows p.from p.code p.to ≡ Some e → IsRanked c r goal t p → (id : ℕ) (keys : List ℕ) (kids : List Part) → id ≡ e.id → keys ≡ keys_of c.bytes e → kids ≡ kids_of c.bytes e → IsStep c r goal t p id keys kids
step c differ low goal t rows answers placed r p e q h id keys kids i k s =
    let l = layer c differ low goal t rows answers placed r p e q h in
    subst (λ (n : ℕ). IsStep c r goal t p n keys kids) (sym i)
    (subst (λ (ns : List ℕ). IsStep c r goal t p e.id ns kids) (sym k)
    (subst (λ (ps : List Part). IsStep c r goal t p e.id (keys_of c.bytes e) ps) (sym s)
    (record {
      differ = keys-differ c.bytes differ e;
      many = as_many c.bytes e;
      ranked = l.ranked;
      is = l.is ∙ sym (ap (λ (v : Pairs). known (string_of t p) e.id v (map (tree_at c r t) (kids_of c.bytes e))) (values_are c.bytes t e));
    })))

-- ## One value after another

either : (a b : Bool) → (a || b) ≡ false → (a ≡ false) × (b ≡ false)
either true b h = absurd (true≢false h)
either false b h = (refl, h)

other : (v m : ℕ) → (v == m) ≡ false → is_same (Var m) (Var v) ≡ false
other v m h = grind arith

not-later : (t : List WSym) (v : ℕ) (ns : List ℕ) (ps : List Part) → list_any (λ m. v == m) ns ≡ false → value_at (values_by t ns ps) (Var v) ≡ None
not-later t v [] ps h = refl
not-later t v (m ∷ ns) [] h = refl
not-later t v (m ∷ ns) (p ∷ ps) h =
    let w = either (v == m) (list_any (λ k. v == k) ns) h in
    ap (λ (b : Bool). if b then Some (part t p.from p.to) else value_at (values_by t ns ps) (Var v)) (other v m w.0) ∙ not-later t v ns ps w.1

distinct-values : (t : List WSym) (ns : List ℕ) (ps : List Part) → AllDiffer ns → HasDistinctKeys (values_by t ns ps)
distinct-values t [] ps h = tt
distinct-values t (n ∷ ns) [] h = tt
distinct-values t (n ∷ ns) (p ∷ ps) h = (not-later t n ns ps h.0, distinct-values t ns ps h.1)

length-values : (t : List WSym) (ns : List ℕ) (ps : List Part) → length ps ≡ length ns → length (values_by t ns ps) ≡ length ns
length-values t [] ps h = refl
length-values t (n ∷ ns) [] h = absurd (cc)
length-values t (n ∷ ns) (p ∷ ps) h = ap suc (length-values t ns ps (let e : length ps ≡ length ns = omega arith in e))

get-value : (t : List WSym) (ns : List ℕ) (ps : List Part) (i v : ℕ) (d : WSym × List WSym) → length ps ≡ length ns → i < length ns → get_or (values_by t ns ps) i d ≡ (Var (get_or ns i v), value (goals_of t ps) i)
get-value t [] ps i v d e h = absurd (omega arith)
get-value t (n ∷ ns) [] i v d e h = absurd (cc)
get-value t (n ∷ ns) (p ∷ ps) zero v d e h = refl
get-value t (n ∷ ns) (p ∷ ps) (suc i) v d e h = get-value t ns ps i v d (let q : length ps ≡ length ns = omega arith in q) (omega arith)

pub key-is-new : (t : List WSym) (ns : List ℕ) (ps : List Part) (sigma : Pairs) (i d : ℕ) → AllDiffer ns → length ps ≡ length ns → i < length ns → sigma ≡ take i (values_by t ns ps) → value_at sigma (Var (get_or ns i d)) ≡ None
key-is-new t ns ps sigma i d differ many l so_far =
    let p : WSym × List WSym = (Var d, []) in
    ap (λ (s : Pairs). value_at s (Var (get_or ns i d))) so_far
    ∙ sym (ap (λ (q : WSym × List WSym). value_at (take i (values_by t ns ps)) q.0) (get-value t ns ps i d p many l))
    ∙ value_at-take (values_by t ns ps) i p (omega (arith, length-values t ns ps many, l)) (distinct-values t ns ps differ)

pub one-more : (t : List WSym) (ns : List ℕ) (ps : List Part) (sigma new : Pairs) (i d : ℕ) (w : List WSym) → length ps ≡ length ns → i < length ns → sigma ≡ take i (values_by t ns ps) → w ≡ value (goals_of t ps) i
    → new ≡ sigma ++ (Var (get_or ns i d), w) ∷ [] → new ≡ take (i + 1) (values_by t ns ps)
one-more t ns ps sigma new i d w many l so_far is put =
    let p : WSym × List WSym = (Var d, []) in
    put
    ∙ ap (λ (s : Pairs). s ++ (Var (get_or ns i d), w) ∷ []) so_far
    ∙ ap (λ (u : List WSym). take i (values_by t ns ps) ++ (Var (get_or ns i d), u) ∷ []) is
    ∙ sym (ap (λ (q : WSym × List WSym). take i (values_by t ns ps) ++ q ∷ []) (get-value t ns ps i d p many l))
    ∙ sym (take_more (values_by t ns ps) i p (omega (arith, length-values t ns ps many, l)))

pub all-values : (t : List WSym) (ns : List ℕ) (ps : List Part) (sigma : Pairs) (i : ℕ) → length ps ≡ length ns → length ns ≤ i → sigma ≡ take i (values_by t ns ps) → sigma ≡ values_by t ns ps
all-values t ns ps sigma i many l so_far = so_far ∙ take_all i (values_by t ns ps) (omega (arith, length-values t ns ps many, l))

-- ## Parts that have a rank

pub ranked-at : (c : Terms) (r : ℕ) (goal : WSym) (t : List WSym) (ps : List Part) (k : ℕ) (d : Part) → AllByRecursion (IsRanked c r goal t) ps → k < length ps → IsRanked c r goal t (get_or ps k d)
ranked-at c r goal t [] k d h l = absurd (omega arith)
ranked-at c r goal t (p ∷ ps) zero d h l = h.0
ranked-at c r goal t (p ∷ ps) (suc k) d h l = ranked-at c r goal t ps k d h.1 (omega arith)
