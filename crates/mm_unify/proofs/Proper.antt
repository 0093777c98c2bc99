-- Substitutions of work variables with no empty value.
use Rattle.std.proofs.Common.{◌≡◌, ◌≢◌, ◌<◌, List, [], ◌∷◌, true, false, length, refl, ap, arith, length-append}
use Rattle.std.specs.List.{AllByRecursion}
use Rattle.std.proofs.lemmas.List.Elements.{recursion_from_All, All-from_recursion}
use Rattle.mm_subst.specs.declared.symbol.WSym.{WSym}
use Rattle.mm_subst.specs.Symbols.{is_work}
use Rattle.mm_subst.specs.Substitutions.{Pairs, value_of, applied}
use Rattle.mm_unify.specs.Unifying.{IsProper}
use Rattle.mm_subst.proofs.Keys.{is_same-true}
use Rattle.mm_unify.proofs.Mapping.{behind, value_cases}

abbrev pub Good : Pairs → Type 0
Good phi = AllByRecursion (λ p. (is_work p.0 ≡ true) × (0 < length p.1)) phi

nonempty : (w : List WSym) → w ≢ [] → 0 < length w
nonempty [] h = absurd (h refl)
nonempty (c ∷ w) h = omega arith

filled : (w : List WSym) → 0 < length w → w ≢ []
filled [] h e = omega arith
filled (c ∷ w) h e = cc

pub good : (phi : Pairs) → IsProper phi → Good phi
good phi h = go phi (recursion_from_All (λ p. is_work p.0 ≡ true) phi h.work) (recursion_from_All (λ p. p.1 ≢ []) phi h.full)
  where
    go : (phi : Pairs) → AllByRecursion (λ p. is_work p.0 ≡ true) phi → AllByRecursion (λ p. p.1 ≢ []) phi → Good phi
    go [] u v = tt
    go (p ∷ phi) u v = ((u.0, nonempty p.1 v.0), go phi u.1 v.1)

pub proper : (phi : Pairs) → Good phi → IsProper phi
proper phi h = record {
  work = All-from_recursion (λ p. is_work p.0 ≡ true) phi (works phi h);
  full = All-from_recursion (λ p. p.1 ≢ []) phi (fulls phi h);
}
  where
    works : (phi : Pairs) → Good phi → AllByRecursion (λ p. is_work p.0 ≡ true) phi
    works [] u = tt
    works (p ∷ phi) u = (u.0.0, works phi u.1)

    fulls : (phi : Pairs) → Good phi → AllByRecursion (λ p. p.1 ≢ []) phi
    fulls [] u = tt
    fulls (p ∷ phi) u = (filled p.1 u.0.1, fulls phi u.1)

-- a symbol that is no work variable keeps its place
pub value_plain : (phi : Pairs) (c : WSym) → Good phi → is_work c ≡ false → value_of phi c ≡ c ∷ []
value_plain [] c h e = refl
value_plain (p ∷ phi) c h e =
    value_cases p phi c (λ v. v ≡ c ∷ [])
    (λ s. let k = is_same-true p.0 c s in let f = ap is_work k in let t = h.0.0 in cc)
    (λ s. value_plain phi c h.1 e)

pub value_full : (phi : Pairs) (c : WSym) → Good phi → 0 < length (value_of phi c)
value_full [] c h = omega arith
value_full (p ∷ phi) c h = value_cases p phi c (λ v. 0 < length v) (λ s. h.0.1) (λ s. value_full phi c h.1)

pub full_after : (phi : Pairs) (c : WSym) (s : List WSym) → Good phi → 0 < length (applied phi (c ∷ s))
unfolding applied
full_after phi c s h = let f = value_full phi c h in omega (arith, length-append (value_of phi c) (applied phi s))

pub good_behind : (phi : Pairs) (x : WSym) (c : WSym) (s : List WSym) → Good phi → is_work x ≡ true → Good (behind phi x (c ∷ s))
good_behind phi x c s h e = ((e, full_after phi c s h), h)
