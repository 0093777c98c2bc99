-- A substitution on the values of another, pair by pair.
use Rattle.std.proofs.Common.{◌≡◌, ◌≤◌, ◌<◌, ℕ, ◌+◌, List, [], ◌∷◌, ◌++◌, All, length, take, map, get_or, None, Err, refl, ap, sym, ◌∙◌, subst, arith}
use Rattle.std.specs.List.{Any}
use Rattle.std.specs.Option.{option_map}
use Rattle.std.proofs.lemmas.List.{take_more, map-append, length-map, get_or-map}
use Rattle.std.proofs.lemmas.List.Elements.{All-push}
use Rattle.mm_subst.specs.Applied.{IsApplied, AreApplied, most_symbols}
use Rattle.mm_subst.specs.Substitutions.{Pairs, value_at, HasDistinctKeys, applied, with_values}
use Rattle.mm_subst.specs.declared.symbol.WSym.{WSym}
use Rattle.mm_subst.specs.declared.fault.TooLongOrMemory.{TooLongOrMemory}
use Rattle.mm_subst.specs.declared.fault.TooLongOrMemory.TheVariants.{TooLong, Memory}
use Rattle.mm_subst.proofs.Keys.{value_at-take}
use Rattle.mm_subst.proofs.Replaced.{value_at-with_values}

-- the key of the next pair is new
pub next_is_new : (theta sigma out : Pairs) (i : ℕ) (p : WSym × List WSym) → i < length sigma → p ≡ get_or sigma i p → HasDistinctKeys sigma
    → out ≡ with_values theta (take i sigma) → value_at out p.0 ≡ None
next_is_new theta sigma out i p h e distinct so_far =
    ap (λ ps. value_at ps p.0) so_far
    ∙ value_at-with_values theta (take i sigma) p.0
    ∙ ap (option_map (applied theta)) (ap (λ (q : WSym × List WSym). value_at (take i sigma) q.0) e ∙ value_at-take sigma i p h distinct)

-- one pair more
pub one_pair_more : (theta sigma out new : Pairs) (i : ℕ) (p : WSym × List WSym) (v : List WSym) → i < length sigma → p ≡ get_or sigma i p
    → out ≡ with_values theta (take i sigma) → v ≡ applied theta p.1 → new ≡ out ++ (p.0, v) ∷ [] → new ≡ with_values theta (take (i + 1) sigma)
one_pair_more theta sigma out new i p v h e so_far value g =
    g
    ∙ ap (λ ps. ps ++ (p.0, v) ∷ []) so_far
    ∙ ap (λ w. with_values theta (take i sigma) ++ (p.0, w) ∷ []) value
    ∙ sym (map-append (λ (q : WSym × List WSym). (q.0, applied theta q.1)) (take i sigma) (p ∷ []))
    ∙ ap (λ q. with_values theta (take i sigma ++ q ∷ [])) e
    ∙ sym (ap (with_values theta) (take_more sigma i p h))

-- where one value is too long, or memory runs out
pub one_fails : (theta sigma : Pairs) (i : ℕ) (p : WSym × List WSym) (e : TooLongOrMemory) → i < length sigma → p ≡ get_or sigma i p
    → IsApplied (Err e) (applied theta p.1) → AreApplied (Err e) (with_values theta sigma)
one_fails theta sigma i p TooLong h same long =
    let f : WSym × List WSym → WSym × List WSym = λ q. (q.0, applied theta q.1) in
    (i, f p, omega (arith, h, length-map sigma f), get_or-map f sigma i p (f p) h ∙ ap f (sym same), long)
one_fails theta sigma i p Memory h same free = tt
