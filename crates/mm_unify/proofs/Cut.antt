-- Taking off equal heads.
use Rattle.std.proofs.Common.{◌≡◌, List, [], ◌∷◌, ◌++◌, false, refl, ap}
use Rattle.std.proofs.lemmas.Bool.{cond_both}
use Rattle.mm_subst.specs.declared.symbol.WSym.{WSym}
use Rattle.mm_subst.specs.Symbols.{is_same}
use Rattle.mm_unify.specs.Search.{cut}
use Rattle.mm_subst.proofs.Keys.{is_same-true}

-- the strings are the equal heads, and then what is left
pub cut_front : (l r : List WSym) → (q : List WSym) × (l ≡ q ++ (cut l r).0) × (r ≡ q ++ (cut l r).1)
cut_front [] r = ([], refl, refl)
cut_front (x ∷ l) [] = ([], refl, refl)
cut_front (x ∷ l) (y ∷ r) =
    let ih = cut_front l r in
    cond_both (is_same x y) (cut l r) (x ∷ l, y ∷ r) (λ v. (q : List WSym) × (x ∷ l ≡ q ++ v.0) × (y ∷ r ≡ q ++ v.1))
    (λ e. let k = is_same-true x y e in let f = ih.2 in (x ∷ ih.0, ap (λ t. x ∷ t) ih.1, cc))
    (λ e. ([], refl, refl))

-- the heads that are left differ
abbrev pub HeadsDiffer : List WSym → List WSym → Type 0
HeadsDiffer (x ∷ l) (y ∷ r) = is_same x y ≡ false
HeadsDiffer _ _ = Unit {0}

pub cut-HeadsDiffer : (l r : List WSym) → HeadsDiffer (cut l r).0 (cut l r).1
cut-HeadsDiffer [] r = tt
cut-HeadsDiffer (x ∷ l) [] = tt
cut-HeadsDiffer (x ∷ l) (y ∷ r) =
    cond_both (is_same x y) (cut l r) (x ∷ l, y ∷ r) (λ v. HeadsDiffer v.0 v.1) (λ e. cut-HeadsDiffer l r) (λ e. e)

pub cut_end : (l r : List WSym) → r ≡ [] → cut l r ≡ (l, r)
cut_end [] r e = refl
cut_end (x ∷ l) [] e = refl
cut_end (x ∷ l) (y ∷ r) e = cc
