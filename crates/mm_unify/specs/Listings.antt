-- The list of unifiers of two strings.
use Rattle.std.specs.Prelude.{ℕ, ◌+◌, ◌^◌, ◌≡◌, List, ◌++◌, false, Option, None, Some, length, map, All, Contains}
use Rattle.mm_subst.specs.Substitutions.{Pairs, value_of}
use Rattle.mm_subst.specs.declared.symbol.WSym.{WSym}
use Rattle.mm_subst.specs.declared.symbol.WSym.TheVariants.{Work}
use Rattle.mm_unify.specs.Variables.{numbers}
use Rattle.mm_unify.specs.Unifying.{Unifies, restricted}
use Rattle.mm_unify.specs.Forbidden.{Forbidden}
use Rattle.mm_unify.specs.Search.{Answer, explore, roots}

-- how many visits there may be: the limit of trials, or else as many as a search can make where one of the strings has no
-- work variable
abbrev pub limit : Option ℕ → List WSym → List WSym → ℕ
limit None a b = 3 ^ (length a + length b)
limit (Some n) a b = n

-- the search under a limit of trials, or under none
abbrev pub answer : Forbidden → Option ℕ → List WSym → List WSym → Answer
answer f trials a b = explore f (limit trials a b) (roots a b)

-- the work variables of the two strings as keys, in order of number
abbrev pub HasKeys : List WSym → List WSym → Pairs → Type 0
HasKeys a b u = map (λ p. p.0) u ≡ map Work (numbers (a ++ b))

-- every substitution that makes the strings equal, and whose values are as they must be, is listed
abbrev pub HasBalanced : Forbidden → List WSym → List WSym → List Pairs → Type 0
HasBalanced f a b found = (theta : Pairs) → Unifies theta a b → All (λ n. f.at_end (value_of theta (Work n)) ≡ false) (numbers (a ++ b)) → Contains found (restricted theta (numbers (a ++ b)))
