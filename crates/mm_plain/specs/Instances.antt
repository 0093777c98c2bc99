-- The substitution that makes a proof of the one with the same labels and fresh work variables.
use Rattle.std.specs.Prelude.{ℕ, ◌+◌, List, [], ◌∷◌, map}
use Rattle.std.specs.List.{flat_map}
use Rattle.mm_subst.specs.declared.symbol.WSym.{WSym}
use Rattle.mm_subst.specs.declared.symbol.WSym.TheVariants.{Work}
use Rattle.mm_subst.specs.Substitutions.{Pairs}
use Rattle.mm_plain.specs.declared.plain.Plain.{Plain}
use Rattle.mm_plain.specs.Shape.{steps_of}
use Rattle.mm_plain.specs.Sources.{sigma_of}

abbrev pub values_at : Plain → List (List WSym)
values_at y = map (λ p. p.1) (sigma_of y)

-- the values of the substitutions of the steps of a tree, in postorder
abbrev pub values_in : Plain → List (List WSym)
values_in x = flat_map values_at (steps_of x)

-- these values for the work variables from n on
abbrev pub numbered : ℕ → List (List WSym) → Pairs
numbered n [] = []
numbered n (v ∷ vs) = (Work n, v) ∷ numbered (n + 1) vs
