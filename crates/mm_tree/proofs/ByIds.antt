-- Facts on premises, by the ids of their hypotheses.
use Rattle.std.proofs.Common.{◌≡◌, ℕ, suc, List, [], ◌∷◌, map, length, refl, sym, ◌∙◌, ap, subst}
use Rattle.std.specs.List.{All, AllByRecursion as ByRecursion}
use Rattle.std.proofs.lemmas.List.Elements.{All-from_recursion, recursion_from_All}
use Rattle.mm_subst.specs.declared.symbol.WSym.{WSym}

by_ids : (P : List WSym → Type 0) (f : ℕ → List WSym) (ids : List ℕ) → ByRecursion P (map f ids) → ByRecursion (λ m. P (f m)) ids
by_ids P f [] h = tt
by_ids P f (m ∷ ms) h = (h.0, by_ids P f ms h.1)

pub of_each : (P : List WSym → Type 0) (f : ℕ → List WSym) (ids : List ℕ) (hs : List (List WSym)) → map f ids ≡ hs → All P hs → All (λ m. P (f m)) ids
of_each P f ids hs e all = All-from_recursion (λ m. P (f m)) ids (by_ids P f ids (recursion_from_All P (map f ids) (subst (All P) (sym e) all)))

as_many_by : (f : ℕ → List WSym) (ids : List ℕ) → length ids ≡ length (map f ids)
as_many_by f [] = refl
as_many_by f (m ∷ ms) = ap suc (as_many_by f ms)

pub as_many : (f : ℕ → List WSym) (ids : List ℕ) (hs : List (List WSym)) → map f ids ≡ hs → length ids ≡ length hs
as_many f ids hs e = as_many_by f ids ∙ ap length e
