-- Proofs whose steps name no statement with mandatory pairs.
use Rattle.std.proofs.Common.{◌≡◌, ℕ, List, [], ◌∷◌, All, sym, subst}
use Rattle.std.proofs.lemmas.List.Elements.{All-nil}
use Rattle.mm_subst.specs.Substitutions.{value_of}
use Rattle.mm_subst.specs.declared.symbol.WSym.TheVariants.{Var}
use Rattle.mm_plain.specs.declared.plain.Plain.{Plain}
use Rattle.mm_plain.specs.Shape.{Each, steps_of}
use Rattle.mm_plain.specs.Sources.{label_of, sigma_of}
use Rattle.mm_sound.specs.Apart.{AreParted, KeepsPairs, IsApart, pairs_by}

all_apart : (bytes : List ℕ) (groups : List (List ℕ)) (xs : List Plain) → Each (λ x. pairs_by bytes (label_of x) ≡ []) xs → Each (KeepsPairs bytes groups) xs
all_apart bytes groups [] e = tt
all_apart bytes groups (x ∷ xs) e =
    (subst (All (λ p. AreParted groups (value_of (sigma_of x) (Var p.0)) (value_of (sigma_of x) (Var p.1)))) (sym e.0) (All-nil _), all_apart bytes groups xs e.1)

-- they keep every pair
pub without_pairs : (bytes : List ℕ) (groups : List (List ℕ)) (x : Plain) → Each (λ y. pairs_by bytes (label_of y) ≡ []) (steps_of x) → IsApart bytes groups x
without_pairs bytes groups x e = all_apart bytes groups (steps_of x) e
