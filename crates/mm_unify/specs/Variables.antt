-- The work variables of strings.
use Rattle.std.specs.Prelude.{ℕ, ◌==◌, List, [], ◌∷◌, nat_lt, if◌then◌else◌}
use Rattle.mm_subst.specs.declared.symbol.WSym.{WSym}
use Rattle.mm_subst.specs.declared.symbol.WSym.TheVariants.{Const, Var, Work}

-- rising numbers with one more in its place, where it is not among them
abbrev pub with_number : ℕ → List ℕ → List ℕ
with_number n [] = n ∷ []
with_number n (m ∷ ms) = if nat_lt n m then n ∷ m ∷ ms else if n == m then m ∷ ms else m ∷ with_number n ms

-- the numbers of the work variables of a string, in order, each once
abbrev pub numbers : List WSym → List ℕ
numbers [] = []
numbers (Const n ∷ s) = numbers s
numbers (Var n ∷ s) = numbers s
numbers (Work n ∷ s) = with_number n (numbers s)
