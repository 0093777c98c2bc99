-- Work variables that stand for parts of a string without work variables.
use Rattle.std.specs.Prelude.{ℕ, ◌≡◌, ◌+◌, ◌-◌, ◌<◌, ◌≤◌, false, List, ◌∷◌, ◌++◌, None, map, take, drop, length}
use Rattle.std.specs.List.{AllByRecursion}
use Rattle.mm_subst.specs.Symbols.{is_work}
use Rattle.mm_subst.specs.Substitutions.{Pairs, value_at, applied}
use Rattle.mm_subst.specs.declared.symbol.WSym.{WSym}
use Rattle.mm_subst.specs.declared.symbol.WSym.TheVariants.{Work}
use Rattle.mm_unify.specs.declared.bound.Bound.{Bound}
use Rattle.mm_unify.specs.declared.advance.Open.{Open}
use Rattle.mm_unify.specs.declared.advance.Reached.{Reached}
use Rattle.mm_unify.specs.declared.advance.Reached.TheVariants.{AtEnd, AtOpen, Stuck}
use Rattle.mm_unify.specs.Search.{cut}

abbrev pub IsPlain : List WSym → Type 0
IsPlain s = AllByRecursion (λ c. is_work c ≡ false) s

-- the symbols of a string from one place to another
abbrev pub part : List WSym → ℕ → ℕ → List WSym
part b i j = take (j - i) (drop i b)

-- the variables that are bound, as a substitution
abbrev pub parts_of : List WSym → List Bound → Pairs
parts_of b path = map (λ q. (Work q.number, part b q.from q.to)) path

abbrev pub AreWithin : List WSym → List Bound → Type 0
AreWithin b path = AllByRecursion (λ q. (q.from ≤ q.to) × (q.to ≤ length b)) path

-- The pattern a under the values so far is the target b up to a place, and then comes a work variable that is not
-- bound, whose value so far is the part of the target up to a second place.
pub record Opens (a b : List WSym) (path : List Bound) (o : Open) : Type 0 where
  pub parts : a ≡ take o.at a ++ Work o.number ∷ drop (o.at + 1) a
  pub free : value_at (parts_of b path) (Work o.number) ≡ None
  pub come : applied (parts_of b path) (take o.at a) ≡ take o.from b
  pub ordered : o.from ≤ o.to
  pub within : o.to ≤ length b

-- The same up to a place, and then come symbols that are no work variables, which the target doesn't have there.
pub record IsStuck (a b : List WSym) (path : List Bound) (start : ℕ) : Type 0 where
  pub place : ℕ
  pub later : start ≤ place
  pub within : place ≤ length b
  pub next : List WSym
  pub rest : List WSym
  pub come : applied (parts_of b path) a ≡ take place b ++ (next ++ rest)
  pub plain : IsPlain next
  pub left : 0 < length (cut next (drop place b)).0

-- The same up to the pattern's end.
pub record IsThrough (a b : List WSym) (path : List Bound) (start place : ℕ) : Type 0 where
  pub later : start ≤ place
  pub within : place ≤ length b
  pub come : applied (parts_of b path) a ≡ take place b

-- A variable of which nothing is found yet.
pub record IsFresh (a b : List WSym) (path : List Bound) (start : ℕ) (o : Open) : Type 0 where
  pub opens : Opens a b path o
  pub later : start ≤ o.to
  pub none : o.from ≡ o.to

-- from a place of the target
abbrev pub Arrives : List WSym → List WSym → List Bound → ℕ → Reached → Type 0
Arrives a b path start (AtEnd j) = IsThrough a b path start j
Arrives a b path start (AtOpen o) = IsFresh a b path start o
Arrives a b path start Stuck = IsStuck a b path start
