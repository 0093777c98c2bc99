-- Substitutions that make two strings equal.
use Rattle.std.specs.Prelude.{ℕ, ◌≡◌, ◌≢◌, ◌<◌, List, [], ◌++◌, length, map, slice_index_or, All, true}
use Rattle.mm_subst.specs.Symbols.{is_work}
use Rattle.mm_subst.specs.Substitutions.{Pairs, applied, value_of}
use Rattle.mm_subst.specs.declared.symbol.WSym.{WSym}
use Rattle.mm_subst.specs.declared.symbol.WSym.TheVariants.{Work}
use Rattle.mm_unify.specs.Variables.{numbers}

-- a substitution of work variables with no empty value
pub record IsProper (theta : Pairs) : Type 0 where
  pub work : All (λ p. is_work p.0 ≡ true) theta
  pub full : All (λ p. p.1 ≢ []) theta

-- it makes the two strings equal
pub record Unifies (theta : Pairs) (a b : List WSym) : Type 0 where
  pub proper : IsProper theta
  pub equal : applied theta a ≡ applied theta b

-- on some work variables theta is tau and then a further substitution
abbrev pub IsInstance : Pairs → Pairs → List ℕ → Type 0
IsInstance theta tau ms = (rho : Pairs) × IsProper rho × All (λ n. value_of theta (Work n) ≡ applied rho (value_of tau (Work n))) ms

-- a substitution on some work variables alone
abbrev pub restricted : Pairs → List ℕ → Pairs
restricted theta ms = map (λ n. (Work n, value_of theta (Work n))) ms

-- exactly one element of a list has the property
abbrev pub ExactlyOne : {X : Type 0} → (X → Type 0) → List X → Type 0
ExactlyOne {X} P xs = (k : ℕ) × (k < length xs) × ((d : X) → P (slice_index_or xs k d)) × ((j : ℕ) (d : X) → j < length xs → P (slice_index_or xs j d) → j ≡ k)

-- every substitution that makes the strings equal is an instance of exactly one of a list, on their work variables
abbrev pub IsComplete : List WSym → List WSym → List Pairs → Type 0
IsComplete a b found = (theta : Pairs) → Unifies theta a b → ExactlyOne (λ u. IsInstance theta u (numbers (a ++ b))) found
