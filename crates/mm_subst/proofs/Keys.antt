-- The keys of a substitution.
use Rattle.std.proofs.Common.{◌≡◌, ◌<◌, ℕ, zero, suc, length, take, get_or, true, false, ◌==◌, List, [], ◌∷◌, ◌++◌, map, None, refl, sym, ◌∙◌, ap, arith, eqb-true, eq-eqb}
use Rattle.std.proofs.lemmas.Option.{none-some}
use Rattle.std.specs.Option.{option_map}
use Rattle.mm_subst.specs.Symbols.{is_same}
use Rattle.mm_subst.specs.Substitutions.{Pairs, value_at, HasDistinctKeys, applied, with_values}
use Rattle.mm_subst.proofs.Replaced.{value_at-with_values}
use Rattle.mm_subst.specs.declared.symbol.WSym.{WSym}
use Rattle.mm_subst.specs.declared.symbol.WSym.TheVariants.{Const, Var, Work}

eqb-comm : (m n : ℕ) → m == n ≡ n == m
eqb-comm m n = grind arith

pub is_same-comm : (x y : WSym) → is_same x y ≡ is_same y x
is_same-comm (Const m) (Const n) = eqb-comm m n
is_same-comm (Var m) (Var n) = eqb-comm m n
is_same-comm (Work m) (Work n) = eqb-comm m n
is_same-comm (Const m) (Var n) = refl
is_same-comm (Const m) (Work n) = refl
is_same-comm (Var m) (Const n) = refl
is_same-comm (Var m) (Work n) = refl
is_same-comm (Work m) (Const n) = refl
is_same-comm (Work m) (Var n) = refl

pub is_same-itself : (x : WSym) → is_same x x ≡ true
is_same-itself (Const n) = eq-eqb n n refl
is_same-itself (Var n) = eq-eqb n n refl
is_same-itself (Work n) = eq-eqb n n refl

-- the test tells symbols apart
pub is_same-true : (x y : WSym) → is_same x y ≡ true → x ≡ y
is_same-true (Const m) (Const n) h = ap Const (eqb-true m n h)
is_same-true (Var m) (Var n) h = ap Var (eqb-true m n h)
is_same-true (Work m) (Work n) h = ap Work (eqb-true m n h)
is_same-true (Const m) (Var n) h = cc
is_same-true (Const m) (Work n) h = cc
is_same-true (Var m) (Const n) h = cc
is_same-true (Var m) (Work n) h = cc
is_same-true (Work m) (Const n) h = cc
is_same-true (Work m) (Var n) h = cc

pub value_at-put : (ps : Pairs) (x k : WSym) (v : List WSym) → value_at ps x ≡ None → is_same k x ≡ false → value_at (ps ++ (k, v) ∷ []) x ≡ None
value_at-put [] x k v h e = grind arith
value_at-put (p ∷ ps) x k v h e = let ih = value_at-put ps x k v in grind (arith, ih)

pub apart : (p : WSym × List WSym) (ps : Pairs) (k : WSym) → value_at (p ∷ ps) k ≡ None → (is_same p.0 k ≡ false) × (value_at ps k ≡ None)
apart p ps k h = elim (is_same p.0 k) as (λ b. is_same p.0 k ≡ b → (is_same p.0 k ≡ false) × (value_at ps k ≡ None)) [ true ↦ λ e. absurd (none-some p.1 (sym h ∙ rw e refl)) | false ↦ λ e. (e, rw e at h) ] refl

pub HasDistinctKeys-put : (ps : Pairs) (k : WSym) (v : List WSym) → HasDistinctKeys ps → value_at ps k ≡ None → HasDistinctKeys (ps ++ (k, v) ∷ [])
HasDistinctKeys-put [] k v d h = (refl, tt)
HasDistinctKeys-put (p ∷ ps) k v d h =
    let a = apart p ps k h in
    (value_at-put ps p.0 k v d.0 (is_same-comm k p.0 ∙ a.0), HasDistinctKeys-put ps k v d.1 a.1)

-- other values leave the keys
pub HasDistinctKeys-with_values : (theta sigma : Pairs) → HasDistinctKeys sigma → HasDistinctKeys (with_values theta sigma)
HasDistinctKeys-with_values theta [] d = tt
HasDistinctKeys-with_values theta (p ∷ ps) d = (value_at-with_values theta ps p.0 ∙ ap (option_map (applied theta)) d.0, HasDistinctKeys-with_values theta ps d.1)

pub keys-with_values : (theta sigma : Pairs) → map (λ (p : WSym × List WSym). p.0) (with_values theta sigma) ≡ map (λ (p : WSym × List WSym). p.0) sigma
keys-with_values theta [] = refl
keys-with_values theta (p ∷ ps) = ap (λ xs. p.0 ∷ xs) (keys-with_values theta ps)

-- the key of a later pair is no earlier one's
not_there : (ps : Pairs) (k : WSym) (i : ℕ) (d : WSym × List WSym) → i < length ps → value_at ps k ≡ None → is_same (get_or ps i d).0 k ≡ false
not_there [] k i d h none = absurd (omega (arith, h))
not_there (p ∷ ps) k zero d h none = (apart p ps k none).0
not_there (p ∷ ps) k (suc i) d h none = not_there ps k i d (omega (arith, h)) (apart p ps k none).1

pub value_at-take : (ps : Pairs) (i : ℕ) (d : WSym × List WSym) → i < length ps → HasDistinctKeys ps → value_at (take i ps) (get_or ps i d).0 ≡ None
value_at-take [] i d h distinct = absurd (omega (arith, h))
value_at-take (p ∷ ps) zero d h distinct = refl
value_at-take (p ∷ ps) (suc i) d h distinct =
    let other : is_same p.0 (get_or ps i d).0 ≡ false = is_same-comm p.0 (get_or ps i d).0 ∙ not_there ps p.0 i d (omega (arith, h)) distinct.0 in
    rw other (value_at-take ps i d (omega (arith, h)) distinct.1)
