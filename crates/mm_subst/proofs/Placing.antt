-- Where the pairs of a substitution stand.
use Rattle.std.proofs.Common.{◌≡◌, ◌≤◌, ◌<◌, ℕ, zero, suc, ◌+◌, Bool, true, false, cond, nat_lt, List, [], ◌∷◌, ◌++◌, length, take, drop, get_or, Option, None, Some, refl, ap, sym, ◌∙◌, arith, length-append}
use borrow.Author.Tests.{ltb-true, ltb-false}
use Rattle.std.proofs.lemmas.Option.{none-some}
use Rattle.std.proofs.lemmas.List.{take-append-drop, get_or-drop, drop-append-le, drop_all, length-drop}
use Rattle.mm_subst.specs.Places.{few, place_from, kept_at, ArePlaces}
use Rattle.mm_subst.specs.Substitutions.{Pairs, value_at}
use Rattle.mm_subst.specs.Symbols.{is_same}
use Rattle.mm_subst.specs.declared.symbol.WSym.{WSym}
use Rattle.mm_subst.proofs.Keys.{is_same-true, apart}
use Rattle.mm_subst.proofs.Replaced.{value_at-append, or_next}

-- a key without a place has no pair
none_by : (first : ℕ) (p : WSym × List WSym) (ps : Pairs) (x : WSym) (b : Bool) → (place_from (suc first) ps x ≡ None → value_at ps x ≡ None)
    → cond b (Some first) (place_from (suc first) ps x) ≡ None → cond b (Some p.1) (value_at ps x) ≡ None
none_by first p ps x true later h = absurd (none-some first (sym h))
none_by first p ps x false later h = later h

no_place : (first : ℕ) (ps : Pairs) (x : WSym) → place_from first ps x ≡ None → value_at ps x ≡ None
no_place first [] x h = refl
no_place first (p ∷ ps) x h = none_by first p ps x (is_same p.0 x) (no_place (suc first) ps x) h

-- the pair at a key's place
record Stands (first : ℕ) (ps : Pairs) (found : Option (List WSym)) (place : ℕ) : Type 0 where
  after : ℕ
  is : first + after ≡ place
  own : after < length ps
  value : (d : WSym × List WSym) → found ≡ Some (get_or ps after d).1

stands_by : (first : ℕ) (p : WSym × List WSym) (ps : Pairs) (x : WSym) (place : ℕ) (b : Bool) → (place_from (suc first) ps x ≡ Some place → Stands (suc first) ps (value_at ps x) place)
    → cond b (Some first) (place_from (suc first) ps x) ≡ Some place → Stands first (p ∷ ps) (cond b (Some p.1) (value_at ps x)) place
stands_by first p ps x place true later h =
    let same : first ≡ place = cc in
    record { after = 0; is = omega (arith, same); own = omega arith; value = λ d. refl }
stands_by first p ps x place false later h =
    let there = later h in
    record { after = suc there.after; is = omega (arith, there.is); own = omega (arith, there.own); value = λ d. there.value d }

at_place : (first : ℕ) (ps : Pairs) (x : WSym) (place : ℕ) → place_from first ps x ≡ Some place → Stands first ps (value_at ps x) place
at_place first [] x place h = absurd (none-some place h)
at_place first (p ∷ ps) x place h = stands_by first p ps x place (is_same p.0 x) (at_place (suc first) ps x place) h

parts : (ps : Pairs) (x : WSym) → value_at ps x ≡ or_next (value_at (take few ps) x) (value_at (drop few ps) x)
parts ps x = ap (λ qs. value_at qs x) (sym (take-append-drop few ps)) ∙ value_at-append (take few ps) (drop few ps) x

-- the value is among the first few
pub found_first : (ps : Pairs) (x : WSym) (v : List WSym) → value_at (take few ps) x ≡ Some v → value_at ps x ≡ Some v
found_first ps x v h = parts ps x ∙ ap (λ o. or_next o (value_at (drop few ps) x)) h

-- or after them
pub record Later (ps : Pairs) (x : WSym) (place : ℕ) : Type 0 where
  pub own : place < length ps
  pub value : (d : WSym × List WSym) → value_at ps x ≡ Some (get_or ps place d).1

pub found_later : (ps : Pairs) (x : WSym) (places : List (WSym × ℕ)) (place : ℕ) → ArePlaces places ps → value_at (take few ps) x ≡ None → Some place ≡ kept_at places x → Later ps x place
found_later ps x places place are none h =
    let there = at_place few (drop few ps) x place (sym (are x) ∙ sym h) in
    record {
      own = omega (arith, there.is, there.own, length-drop few ps);
      value = λ d.
          parts ps x
          ∙ ap (λ o. or_next o (value_at (drop few ps) x)) none
          ∙ there.value d
          ∙ ap (λ (q : WSym × List WSym). Some q.1) (get_or-drop few ps there.after d ∙ ap (λ n. get_or ps n d) there.is);
    }

-- or nowhere
pub found_nowhere : (ps : Pairs) (x : WSym) (places : List (WSym × ℕ)) → ArePlaces places ps → value_at (take few ps) x ≡ None → None ≡ kept_at places x → value_at ps x ≡ None
found_nowhere ps x places are none h =
    parts ps x ∙ ap (λ o. or_next o (value_at (drop few ps) x)) none ∙ no_place few (drop few ps) x (sym (are x) ∙ sym h)

-- one pair more
more_by : (n m : ℕ) (same_first same : Bool) (o : Option ℕ) → (same ≡ true → same_first ≡ false)
    → cond same_first (Some n) (cond same (Some m) o) ≡ cond same (Some m) (cond same_first (Some n) o)
more_by n m true true o other = let e : true ≡ false = other refl in cc
more_by n m true false o other = refl
more_by n m false same o other = refl

place_more : (first : ℕ) (ps : Pairs) (k x : WSym) (v : List WSym) → value_at ps k ≡ None
    → place_from first (ps ++ (k, v) ∷ []) x ≡ cond (is_same k x) (Some (first + length ps)) (place_from first ps x)
place_more first [] k x v h = ap (λ n. cond (is_same k x) (Some n) None) (omega arith)
place_more first (p ∷ ps) k x v h =
    let a = apart p ps k h in
    ap (cond (is_same p.0 x) (Some first)) (place_more (suc first) ps k x v a.1)
    ∙ more_by first (suc first + length ps) (is_same p.0 x) (is_same k x) (place_from (suc first) ps x) (λ e. ap (is_same p.0) (sym (is_same-true k x e)) ∙ a.0)
    ∙ ap (λ n. cond (is_same k x) (Some n) (cond (is_same p.0 x) (Some first) (place_from (suc first) ps x))) (omega arith)

-- a key that no pair has is none of the later ones'
none_of : (n : ℕ) (ps : Pairs) (k : WSym) → value_at ps k ≡ None → value_at (drop n ps) k ≡ None
none_of zero ps k h = h
none_of (suc n) [] k h = h
none_of (suc n) (p ∷ ps) k h = none_of n ps k (apart p ps k h).1

more_late : (ps : Pairs) (places new : List (WSym × ℕ)) (k x : WSym) (v : List WSym) (early : Bool) → nat_lt (length ps) few ≡ early → value_at ps k ≡ None → ArePlaces places ps
    → cond early (kept_at places x) (cond (is_same k x) (Some (length ps)) (kept_at places x)) ≡ place_from few (drop few (ps ++ (k, v) ∷ [])) x
more_late ps places new k x v true e h are =
    let short : length ps < few = ltb-true (length ps) few e in
    are x
    ∙ ap (λ qs. place_from few qs x) (drop_all few ps (omega (arith, short)) ∙ sym (drop_all few (ps ++ (k, v) ∷ []) (omega (arith, short, length-append ps ((k, v) ∷ [])))))
more_late ps places new k x v false e h are =
    let long : few ≤ length ps = ltb-false (length ps) few e in
    ap (λ o. cond (is_same k x) (Some (length ps)) o) (are x)
    ∙ ap (λ n. cond (is_same k x) (Some n) (place_from few (drop few ps) x)) (omega (arith, long, length-drop few ps))
    ∙ sym (place_more few (drop few ps) k x v (none_of few ps k h))
    ∙ ap (λ qs. place_from few qs x) (sym (drop-append-le few ps ((k, v) ∷ []) long))

pub places_more : (ps : Pairs) (places new : List (WSym × ℕ)) (k : WSym) (v : List WSym) → value_at ps k ≡ None → ArePlaces places ps
    → ((x : WSym) → kept_at new x ≡ cond (nat_lt (length ps) few) (kept_at places x) (cond (is_same k x) (Some (length ps)) (kept_at places x)))
    → ArePlaces new (ps ++ (k, v) ∷ [])
places_more ps places new k v h are kept x = kept x ∙ more_late ps places new k x v (nat_lt (length ps) few) refl h are
