-- Distinct pairs in a proof (Metamath book, section 4.2.2).
use Rattle.std.specs.Prelude.{◌≡◌, ℕ, true, List, [], Option, None, Some, filter_map, All}
use Rattle.mm_tables.specs.Distinct.{are_distinct}
use Rattle.mm_scope.specs.Contents.{stated_at}
use Rattle.mm_subst.specs.Substitutions.{value_of}
use Rattle.mm_subst.specs.declared.symbol.WSym.{WSym}
use Rattle.mm_subst.specs.declared.symbol.WSym.TheVariants.{Const, Var, Work}
use Rattle.mm_plain.specs.declared.plain.Plain.{Plain}
use Rattle.mm_plain.specs.Shape.{Each, steps_of}
use Rattle.mm_plain.specs.Sources.{label_of, sigma_of}

-- a variable of the database, by number
abbrev pub variable_by : WSym → Option ℕ
variable_by (Const n) = None
variable_by (Var n) = Some n
variable_by (Work n) = None

-- the variables of the database in a string, in order
abbrev pub variables_in : List WSym → List ℕ
variables_in s = filter_map variable_by s

-- each variable of the one string differs from each of the other, and some group holds both
abbrev pub AreParted : List (List ℕ) → List WSym → List WSym → Type 0
AreParted groups s t = All (λ u. All (λ v. are_distinct groups u v ≡ true) (variables_in t)) (variables_in s)

-- the mandatory pairs of the statement that a step names
abbrev pub pairs_by : List ℕ → Option ℕ → List (ℕ × ℕ)
pairs_by bytes None = []
pairs_by bytes (Some l) = (stated_at bytes l).pairs

-- what stands for the variables of each such pair is parted
abbrev pub KeepsPairs : List ℕ → List (List ℕ) → Plain → Type 0
KeepsPairs bytes groups x = All (λ p. AreParted groups (value_of (sigma_of x) (Var p.0)) (value_of (sigma_of x) (Var p.1))) (pairs_by bytes (label_of x))

-- so it is at each step
abbrev pub IsApart : List ℕ → List (List ℕ) → Plain → Type 0
IsApart bytes groups x = Each (KeepsPairs bytes groups) (steps_of x)
