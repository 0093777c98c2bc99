-- Strings as the machine has them.
use Rattle.std.specs.Prelude.{ℕ, List, [], ◌∷◌}
use Rattle.std.specs.List.{flat_map}
use Rattle.mm_subst.specs.declared.symbol.WSym.{WSym}
use Rattle.mm_subst.specs.declared.symbol.WSym.TheVariants.{Const, Var, Work}

-- the number of a symbol of the database; a work variable has none
abbrev pub number_in : WSym → List ℕ
number_in (Const n) = n ∷ []
number_in (Var n) = n ∷ []
number_in (Work n) = []

-- the numbers of a string's symbols, in order
abbrev pub numbers : List WSym → List ℕ
numbers s = flat_map number_in s
