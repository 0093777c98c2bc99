-- Fresh work variables, one after another.
use Rattle.std.proofs.Common.{zero, suc, ◌≡◌, ℕ, ◌+◌, ◌-◌, ◌≤◌, ◌<◌, ◌==◌, Bool, true, false, ◌||◌, List, [], ◌∷◌, ◌++◌, map, take, drop, get_or, length, is_some, Option, None, Some, refl, sym, ◌∙◌, ap, subst, arith, if◌then◌else◌}
use Rattle.std.specs.List.{list_any, filter_map, cons_option}
use Rattle.std.proofs.lemmas.Bool.{true≢false}
use Rattle.std.proofs.lemmas.List.{take_all, take_more, at_drop_more}
use Rattle.mm_scope.specs.Contents.{statements_of, stated_at}
use Rattle.mm_scope.specs.Laws.{AllDiffer}
use Rattle.mm_stated.specs.Mandatory.{statement_at, variables_of}
use Rattle.mm_stated.specs.Stated.{is_hypothesis, variable_of}
use Rattle.mm_subst.specs.Statements.{statement_of}
use Rattle.mm_subst.specs.Substitutions.{Pairs, value_at, HasDistinctKeys}
use Rattle.mm_subst.specs.Symbols.{is_same}
use Rattle.mm_subst.specs.declared.symbol.WSym.{WSym}
use Rattle.mm_subst.specs.declared.symbol.WSym.TheVariants.{Var, Work}
use Rattle.mm_subst.proofs.Keys.{value_at-take}
use Rattle.mm_plain.specs.Drawing.{fresh_from}
use Rattle.mm_plain.specs.Premises.{premise_ids, premises_of, variables_for}
use Rattle.mm_plain.proofs.Fresh.{length-fresh}

either : (a b : Bool) → (a || b) ≡ false → (a ≡ false) × (b ≡ false)
either true b h = absurd (true≢false h)
either false b h = (refl, h)

-- the keys differ where the variables do

other : (v m : ℕ) → (v == m) ≡ false → is_same (Var m) (Var v) ≡ false
other v m h = grind arith

not-later : (n v : ℕ) (vs : List ℕ) → list_any (λ m. v == m) vs ≡ false → value_at (fresh_from n vs) (Var v) ≡ None
not-later n v [] h = refl
not-later n v (m ∷ vs) h =
    let w = either (v == m) (list_any (λ k. v == k) vs) h in
    ap (λ b. if b then Some (Work n ∷ []) else value_at (fresh_from (n + 1) vs) (Var v)) (other v m w.0) ∙ not-later (n + 1) v vs w.1

distinct-fresh : (n : ℕ) (vs : List ℕ) → AllDiffer vs → HasDistinctKeys (fresh_from n vs)
distinct-fresh n [] h = tt
distinct-fresh n (v ∷ vs) h = (not-later (n + 1) v vs h.0, distinct-fresh (n + 1) vs h.1)

get-fresh : (n : ℕ) (vs : List ℕ) (i v : ℕ) (d : WSym × List WSym) → i < length vs → get_or (fresh_from n vs) i d ≡ (Var (get_or vs i v), Work (n + i) ∷ [])
get-fresh n [] i v d h = absurd (omega arith)
get-fresh n (w ∷ vs) zero v d h = let z : n ≡ n + 0 = omega arith in ap (λ m. let p : WSym × List WSym = (Var w, Work m ∷ []) in p) z
get-fresh n (w ∷ vs) (suc i) v d h = let z : n + 1 + i ≡ n + suc i = omega arith in get-fresh (n + 1) vs i v d (omega arith) ∙ ap (λ m. let p : WSym × List WSym = (Var (get_or vs i v), Work m ∷ []) in p) z

pub key-is-new : (first : ℕ) (vs : List ℕ) (sigma : Pairs) (i d : ℕ) → AllDiffer vs → i < length vs → sigma ≡ take i (fresh_from first vs) → value_at sigma (Var (get_or vs i d)) ≡ None
key-is-new first vs sigma i d differ l so_far =
    let p : WSym × List WSym = (Var d, []) in
    ap (λ s. value_at s (Var (get_or vs i d))) so_far
    ∙ sym (ap (λ (q : WSym × List WSym). value_at (take i (fresh_from first vs)) q.0) (get-fresh first vs i d p l))
    ∙ value_at-take (fresh_from first vs) i p (omega (arith, length-fresh first vs)) (distinct-fresh first vs differ)

pub one-more : (first : ℕ) (vs : List ℕ) (sigma new : Pairs) (i d number : ℕ) (value : List WSym) → i < length vs → sigma ≡ take i (fresh_from first vs) → number ≡ first + i
    → value ≡ Work number ∷ [] → new ≡ sigma ++ (Var (get_or vs i d), value) ∷ [] → new ≡ take (i + 1) (fresh_from first vs)
one-more first vs sigma new i d number value l so_far n is put =
    let p : WSym × List WSym = (Var d, []) in
    put
    ∙ ap (λ s. s ++ (Var (get_or vs i d), value) ∷ []) so_far
    ∙ ap (λ w. take i (fresh_from first vs) ++ (Var (get_or vs i d), w) ∷ []) (is ∙ ap (λ m. Work m ∷ []) n)
    ∙ sym (ap (λ (q : WSym × List WSym). take i (fresh_from first vs) ++ q ∷ []) (get-fresh first vs i d p l))
    ∙ sym (take_more (fresh_from first vs) i p (omega (arith, length-fresh first vs)))

pub all-fresh : (first : ℕ) (vs : List ℕ) (sigma : Pairs) (i : ℕ) → length vs ≤ i → sigma ≡ take i (fresh_from first vs) → sigma ≡ fresh_from first vs
all-fresh first vs sigma i l so_far = so_far ∙ take_all i (fresh_from first vs) (omega (arith, length-fresh first vs))

-- the variables of a statement

pub variables-differ : (bytes : List ℕ) (id : ℕ) → AllDiffer (variables_of (statements_of bytes) (stated_at bytes id).mandatory) → AllDiffer (variables_for bytes id)
unfolding variables_for
variables-differ bytes id h = go (is_hypothesis (stated_at bytes id).kind)
  where
    go : (b : Bool) → AllDiffer (if b then [] else variables_of (statements_of bytes) (stated_at bytes id).mandatory)
    go true = tt
    go false = h

-- the variables of a statement are those of its premises that are `$f`
pub variables-premises : (bytes : List ℕ) (id : ℕ) → filter_map (λ i. variable_of (stated_at bytes i)) (premise_ids bytes id) ≡ variables_for bytes id
unfolding variables_for premise_ids variables_of
variables-premises bytes id = go (is_hypothesis (stated_at bytes id).kind)
  where
    go : (b : Bool) → filter_map (λ i. variable_of (stated_at bytes i)) (if b then [] else (stated_at bytes id).mandatory) ≡ (if b then [] else variables_of (statements_of bytes) (stated_at bytes id).mandatory)
    go true = refl
    go false = refl
