-- Where a tree has a work variable.
use Rattle.std.specs.Prelude.{ℕ, Bool, ◌||◌, List}
use Rattle.std.specs.List.{list_any}
use Rattle.mm_subst.specs.declared.symbol.WSym.{WSym}
use Rattle.mm_subst.specs.declared.symbol.WSym.TheVariants.{Work}
use Rattle.mm_subst.specs.Symbols.{is_same}
use Rattle.mm_plain.specs.declared.plain.Plain.{Plain}
use Rattle.mm_plain.specs.Shape.{steps_of, target_of}
use Rattle.mm_plain.specs.Sources.{sigma_of}

-- whether a string has the work variable with a number
abbrev pub holds : ℕ → List WSym → Bool
holds n s = list_any (is_same (Work n)) s

-- whether the target of a step, or a value of its substitution, has it
abbrev pub occurs_at : ℕ → Plain → Bool
occurs_at n y = holds n (target_of y) || list_any (λ p. holds n p.1) (sigma_of y)

-- whether some step has it
unfoldable pub occurs_in : ℕ → Plain → Bool
occurs_in n x = list_any (occurs_at n) (steps_of x)
