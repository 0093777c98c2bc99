-- What is forbidden where no brackets are heeded.
use Rattle.std.proofs.Common.{◌≡◌, List, [], ◌∷◌, Option, None, Some, true, not, refl}
use Rattle.std.specs.List.{list_all}
use Rattle.mm_subst.specs.declared.brackets.Brackets.{Brackets}
use Rattle.mm_unify.specs.Forbidden.{forbidden_by}
use Rattle.mm_chart.specs.Items.{Goal}

-- where there are no brackets to heed nothing is forbidden
pub nothing_forbidden : (o : Option Brackets) (gs : List Goal) → o ≡ None → true ≡ list_all (λ g. not ((forbidden_by o).at_end g.1)) gs
nothing_forbidden None [] e = refl
nothing_forbidden None (g ∷ gs) e = nothing_forbidden None gs refl
nothing_forbidden (Some b) gs e = absurd (cc)
