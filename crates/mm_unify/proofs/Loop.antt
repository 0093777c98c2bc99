-- The loop of the search: what is found so far, and the search over the nodes that wait, the last one first.
use Rattle.std.proofs.Common.{ℕ, zero, suc, ◌+◌, ◌-◌, ◌≡◌, ◌<◌, List, [], ◌∷◌, ◌++◌, Bool, true, false, length, reverse, refl, sym, ap, ◌∙◌, arith, append_assoc}
use Rattle.std.proofs.lemmas.List.{append-nil, reverse-append, reverse-reverse, length-reverse}
use Rattle.mm_unify.specs.declared.listing.Ended.TheVariants.{Whole, Trials, Length}
use Rattle.mm_subst.specs.Substitutions.{Pairs}
use Rattle.mm_unify.specs.Search.{Node, Answer, visit, explore, is_too_long, unless_long, stop, after}
use Rattle.mm_unify.specs.Forbidden.{Forbidden}

pub record Continues (rule : Forbidden) (whole : Answer) (found : List Pairs) (n : ℕ) (nodes : List Node) : Type 0 where
  pub found_is : whole.found ≡ found ++ (explore rule n (reverse nodes)).found
  pub ended_is : whole.ended ≡ (explore rule n (reverse nodes)).ended

pub continues_first : (rule : Forbidden) (node : Node) (n : ℕ) (nodes : List Node) (found : List Pairs) → nodes ≡ node ∷ [] → found ≡ [] → Continues rule (explore rule n (node ∷ [])) found n nodes
continues_first rule node n nodes found e f = rw (e, f) (record { found_is = refl; ended_is = refl })

pub explore_none : (rule : Forbidden) (n : ℕ) → explore rule n [] ≡ stop Whole
unfolding explore
explore_none rule n = refl

explore_zero : (rule : Forbidden) (nodes : List Node) → 0 < length nodes → explore rule 0 nodes ≡ stop Trials
unfolding explore
explore_zero rule [] h = absurd (omega arith)
explore_zero rule (node ∷ nodes) h = refl

pub explore_more : (rule : Forbidden) (n : ℕ) (node : Node) (rest : List Node) → explore rule (suc n) (node ∷ rest) ≡ unless_long (is_too_long node) (visit rule node).found (explore rule n ((visit rule node).children ++ rest))
unfolding explore
explore_more rule n node rest = refl

pub continues_none : (rule : Forbidden) (whole : Answer) (found : List Pairs) (n : ℕ) (nodes : List Node) → nodes ≡ [] → Continues rule whole found n nodes → (found ≡ whole.found) × (Whole ≡ whole.ended)
continues_none rule whole found n nodes e h =
    let k : explore rule n (reverse nodes) ≡ stop Whole = rw e (explore_none rule n) in
    let f = h.found_is in let g = h.ended_is in
    let i = ap (λ (a : Answer). a.found) k in let j = ap (λ (a : Answer). a.ended) k in
    let l = append-nil found in
    (cc, cc)

pub continues_zero : (rule : Forbidden) (whole : Answer) (found : List Pairs) (nodes : List Node) → 0 < length nodes → Continues rule whole found 0 nodes → (found ≡ whole.found) × (Trials ≡ whole.ended)
continues_zero rule whole found nodes e h =
    let k = explore_zero rule (reverse nodes) (rw length-reverse e) in
    let f = h.found_is in let g = h.ended_is in
    let i = ap (λ (a : Answer). a.found) k in let j = ap (λ (a : Answer). a.ended) k in
    let l = append-nil found in
    (cc, cc)

next_is : (rule : Forbidden) (n : ℕ) (nodes xs : List Node) (node : Node) → 0 < n → nodes ≡ xs ++ node ∷ [] →
    explore rule n (reverse nodes) ≡ unless_long (is_too_long node) (visit rule node).found (explore rule (n - 1) ((visit rule node).children ++ reverse xs))
next_is rule zero nodes xs node h e = absurd (omega arith)
next_is rule (suc n) nodes xs node h e =
    let k : suc n - 1 ≡ n = omega arith in
    rw (e, reverse-append xs (node ∷ []), k) (explore_more rule n node (reverse xs))

pub continues_long : (rule : Forbidden) (whole : Answer) (found : List Pairs) (n : ℕ) (nodes xs : List Node) (node : Node) → 0 < n → nodes ≡ xs ++ node ∷ [] → is_too_long node ≡ true →
    Continues rule whole found n nodes → (found ≡ whole.found) × (Length ≡ whole.ended)
continues_long rule whole found n nodes xs node p e t h =
    let k : explore rule n (reverse nodes) ≡ stop Length = next_is rule n nodes xs node p e ∙ ap (λ (b : Bool). unless_long b (visit rule node).found (explore rule (n - 1) ((visit rule node).children ++ reverse xs))) t in
    let f = h.found_is in let g = h.ended_is in
    let i = ap (λ (a : Answer). a.found) k in let j = ap (λ (a : Answer). a.ended) k in
    let l = append-nil found in
    (cc, cc)

pub continues_step : (rule : Forbidden) (whole : Answer) (found : List Pairs) (n : ℕ) (nodes xs : List Node) (node : Node) (m : ℕ) (ys : List Node) (more : List Pairs) →
    m + 1 ≡ n → nodes ≡ xs ++ node ∷ [] → is_too_long node ≡ false → ys ≡ xs ++ reverse (visit rule node).children → more ≡ found ++ (visit rule node).found →
    Continues rule whole found n nodes → Continues rule whole more m ys
continues_step rule whole found n nodes xs node m ys more p e t y f h =
    let o : n - 1 ≡ m = omega arith in
    let q : reverse ys ≡ (visit rule node).children ++ reverse xs = ap reverse y ∙ reverse-append xs (reverse (visit rule node).children) ∙ ap (λ s. s ++ reverse xs) (reverse-reverse (visit rule node).children) in
    let k : explore rule n (reverse nodes) ≡ after (visit rule node).found (explore rule m (reverse ys)) =
    next_is rule n nodes xs node (omega arith) e
    ∙ ap (λ (b : Bool). unless_long b (visit rule node).found (explore rule (n - 1) ((visit rule node).children ++ reverse xs))) t
    ∙ ap (λ (i : ℕ). after (visit rule node).found (explore rule i ((visit rule node).children ++ reverse xs))) o
    ∙ ap (λ (s : List Node). after (visit rule node).found (explore rule m s)) (sym q) in
    let i = ap (λ (a : Answer). a.found) k in let j = ap (λ (a : Answer). a.ended) k in
    record {
      found_is = h.found_is ∙ ap (λ s. found ++ s) i ∙ sym (append_assoc found (visit rule node).found (explore rule m (reverse ys)).found) ∙ ap (λ s. s ++ (explore rule m (reverse ys)).found) (sym f);
      ended_is = h.ended_is ∙ j;
    }
