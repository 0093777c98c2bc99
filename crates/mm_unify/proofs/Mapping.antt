-- Laws of the values of symbols, and of substitutions applied one after the other.
use Rattle.std.proofs.Common.{◌≡◌, ◌≢◌, List, [], ◌∷◌, Bool, true, false, if◌then◌else◌, Some, refl, ap, ◌∙◌, inl, inr, ◌⊎◌}
use Rattle.mm_subst.specs.declared.symbol.WSym.{WSym}
use Rattle.mm_subst.specs.Symbols.{is_same}
use Rattle.mm_subst.specs.Substitutions.{Pairs, value_at, or_itself, value_of, applied}
use Rattle.mm_subst.proofs.Keys.{is_same-true}
use Rattle.mm_subst.proofs.Replaced.{applied-append, applied-one}

pub is_same-false : (x y : WSym) → x ≢ y → is_same x y ≡ false
is_same-false x y ne = go (is_same x y) refl
  where
    go : (b : Bool) → is_same x y ≡ b → b ≡ false
    go true e = absurd (ne (is_same-true x y e))
    go false e = refl

-- two symbols are the same or not
pub cases_same : (x y : WSym) → (x ≡ y) ⊎ (is_same x y ≡ false)
cases_same x y = go (is_same x y) refl
  where
    go : (b : Bool) → is_same x y ≡ b → (x ≡ y) ⊎ (is_same x y ≡ false)
    go true e = inl (is_same-true x y e)
    go false e = inr e

-- the value of a symbol is that of the first pair, where its key is the symbol, or else that of the others
pub value_cases : (p : WSym × List WSym) (phi : Pairs) (c : WSym) (P : List WSym → Type 0) → (is_same p.0 c ≡ true → P p.1) → (is_same p.0 c ≡ false → P (value_of phi c)) → P (value_of (p ∷ phi) c)
value_cases p phi c P f g = go (is_same p.0 c) refl
  where
    go : (b : Bool) → is_same p.0 c ≡ b → P (or_itself c (if b then Some p.1 else value_at phi c))
    go true e = f e
    go false e = g e

pub value_first : (p : WSym × List WSym) (phi : Pairs) (c : WSym) → is_same p.0 c ≡ true → value_of (p ∷ phi) c ≡ p.1
value_first p phi c e = ap (λ (b : Bool). or_itself c (if b then Some p.1 else value_at phi c)) e

pub value_later : (p : WSym × List WSym) (phi : Pairs) (c : WSym) → is_same p.0 c ≡ false → value_of (p ∷ phi) c ≡ value_of phi c
value_later p phi c e = ap (λ (b : Bool). or_itself c (if b then Some p.1 else value_at phi c)) e

-- only the values of the symbols in the string count
pub applied_everywhere : (theta psi : Pairs) (s : List WSym) → ((c : WSym) → value_of theta c ≡ value_of psi c) → applied theta s ≡ applied psi s
unfolding applied
applied_everywhere theta psi [] h = refl
applied_everywhere theta psi (c ∷ s) h = let e = applied_everywhere theta psi s h in cc (h c, e)

-- one substitution and then phi is one substitution
pub applied-applied : (phi theta psi : Pairs) → ((c : WSym) → applied phi (value_of theta c) ≡ value_of psi c) → (s : List WSym) → applied phi (applied theta s) ≡ applied psi s
unfolding applied
applied-applied phi theta psi h [] = refl
applied-applied phi theta psi h (c ∷ s) =
    let e = applied-applied phi theta psi h s in
    applied-append phi (value_of theta c) (applied theta s) ∙ cc (h c, e)

-- phi after the step x := w
abbrev pub behind : Pairs → WSym → List WSym → Pairs
behind phi x w = (x, applied phi w) ∷ phi

pub value-behind : (phi : Pairs) (x : WSym) (w : List WSym) (c : WSym) → applied phi (value_of ((x, w) ∷ []) c) ≡ value_of (behind phi x w) c
value-behind phi x w c =
    value_cases (x, applied phi w) phi c (λ t. applied phi (value_of ((x, w) ∷ []) c) ≡ t)
    (λ e. ap (applied phi) (value_first (x, w) [] c e))
    (λ e. ap (applied phi) (value_later (x, w) [] c e) ∙ applied-one phi c)

pub applied-behind : (phi : Pairs) (x : WSym) (w s : List WSym) → applied phi (applied ((x, w) ∷ []) s) ≡ applied (behind phi x w) s
applied-behind phi x w s = applied-applied phi ((x, w) ∷ []) (behind phi x w) (value-behind phi x w) s
