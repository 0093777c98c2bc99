-- A key is none of those before it.
use Rattle.std.proofs.Common.{◌≡◌, List, [], ◌∷◌, ◌++◌, Bool, true, false, Some, None, if◌then◌else◌, refl, sym, ◌∙◌}
use Rattle.std.proofs.lemmas.Option.{none-some}
use Rattle.mm_subst.specs.declared.symbol.WSym.{WSym}
use Rattle.mm_subst.specs.Symbols.{is_same}
use Rattle.mm_subst.specs.Substitutions.{Pairs, value_at, HasDistinctKeys}
use Rattle.mm_subst.proofs.Keys.{is_same-comm}

apart : (xs ys : Pairs) (p : WSym × List WSym) (k : WSym) → value_at (xs ++ p ∷ ys) k ≡ None → is_same p.0 k ≡ false
apart [] ys p k h = go (is_same p.0 k) h
  where
    go : (b : Bool) → (if b then Some p.1 else value_at ys k) ≡ None → b ≡ false
    go true e = absurd (none-some p.1 (sym e))
    go false e = refl
apart (q ∷ xs) ys p k h = go (is_same q.0 k) h (apart xs ys p k)
  where
    go : (b : Bool) → (if b then Some q.1 else value_at (xs ++ p ∷ ys) k) ≡ None → (value_at (xs ++ p ∷ ys) k ≡ None → is_same p.0 k ≡ false) → is_same p.0 k ≡ false
    go true e ih = absurd (none-some q.1 (sym e))
    go false e ih = ih e

pub distinct_before : (xs ys : Pairs) (p : WSym × List WSym) → HasDistinctKeys (xs ++ p ∷ ys) → value_at xs p.0 ≡ None
distinct_before [] ys p h = refl
distinct_before (q ∷ xs) ys p h = rw (is_same-comm q.0 p.0 ∙ apart xs ys p q.0 h.0) (distinct_before xs ys p h.1)
