-- Substitutions.
use Rattle.std.specs.Prelude.{ℕ, ◌==◌, List, [], ◌∷◌, if◌then◌else◌}
use Rattle.std.specs.List.{flat_map}

-- a variable, and the symbols that stand for it, which may be none
pub record Binding : Type 0 where
  pub variable : ℕ
  pub value : List ℕ

-- what stands for a symbol under a substitution: the value of a variable; any other symbol stands for itself
abbrev pub value_of : List Binding → ℕ → List ℕ
value_of [] s = s ∷ []
value_of (b ∷ bs) s = if s == b.variable then b.value else value_of bs s

-- the symbols, each replaced by what stands for it
abbrev pub instance : (ℕ → List ℕ) → List ℕ → List ℕ
instance value symbols = flat_map value symbols
