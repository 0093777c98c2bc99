-- The tests of symbols and strings.
use Rattle.std.proofs.Common.{◌≡◌, List, [], ◌∷◌, Bool, true, false, refl, ap, ◌∙◌}
use Rattle.std.proofs.lemmas.Bool.{and_parts}
use Rattle.mm_subst.specs.declared.symbol.WSym.{WSym}
use Rattle.mm_subst.specs.Symbols.{is_same}
use Rattle.mm_subst.proofs.Keys.{is_same-true, is_same-itself}
use Rattle.mm_chart.specs.Items.{same_string}

pub same-true : (x y : WSym) → is_same x y ≡ true → x ≡ y
same-true x y h = is_same-true x y h

pub eq-same : (x y : WSym) → x ≡ y → is_same x y ≡ true
eq-same x y e = ap (λ (z : WSym). is_same z y) e ∙ is_same-itself y

pub ne-same : (x y : WSym) → (x ≡ y → ⊥) → is_same x y ≡ false
ne-same x y h = go (is_same x y) refl
  where
    go : (b : Bool) → is_same x y ≡ b → b ≡ false
    go true e = absurd (h (is_same-true x y e))
    go false e = refl

pub same_strings : (s t : List WSym) → same_string s t ≡ true → s ≡ t
same_strings [] [] h = refl
same_strings [] (y ∷ t) h = absurd (cc)
same_strings (x ∷ s) [] h = absurd (cc)
same_strings (x ∷ s) (y ∷ t) h =
    let p = and_parts (is_same x y) (same_string s t) h in
    ap (λ (z : WSym). z ∷ s) (is_same-true x y p.0) ∙ ap (λ (u : List WSym). y ∷ u) (same_strings s t p.1)
