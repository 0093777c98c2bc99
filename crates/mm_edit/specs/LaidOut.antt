-- A proof that is laid out by its own steps: the trees that stand, and those of the steps so far.
use Rattle.std.specs.Prelude.{◌≡◌, ℕ, ◌+◌, ◌-◌, ◌≤◌, ◌<◌, List, [], ◌∷◌, ◌++◌, length, map, take, drop, get_or, Option, None, Some, All, true}
use Rattle.std.specs.List.{flat_map, sum_by, AllByRecursion}
use Rattle.mm_scope.specs.Contents.{stated_at}
use Rattle.mm_stated.specs.Stated.{variable_of}
use Rattle.mm_subst.specs.Applied.{most_symbols}
use Rattle.mm_subst.specs.Statements.{statement_of}
use Rattle.mm_subst.specs.Substitutions.{Pairs, applied}
use Rattle.mm_subst.specs.declared.symbol.WSym.{WSym}
use Rattle.mm_subst.specs.declared.symbol.WSym.TheVariants.{Var}
use Rattle.mm_unify.specs.declared.listing.Settings.{Settings}
use Rattle.mm_plain.specs.Numbers.{labels_in}
use Rattle.mm_plain.specs.Premises.{premise_ids}
use Rattle.mm_plain.specs.Shape.{Each, known, size_of, steps_of, target_of}
use Rattle.mm_plain.specs.Valid.{IsSound, first_setting}
use Rattle.mm_plain.specs.declared.plain.Plain.{Plain}
use Rattle.mm_tree.specs.Plans.{Grove, grown, no_tree}
use Rattle.mm_edit.specs.Built.{IsOwnStep, is_surely_found}

-- ## The values that trees give

abbrev pub value_of_float : Option ℕ → List WSym → Pairs
value_of_float None t = []
value_of_float (Some v) t = (Var v, drop 1 t) ∷ []

-- what a tree for a hypothesis gives: for a `$f` its string without the typecode is the value of the variable
abbrev pub value_by : List ℕ → ℕ → List WSym → Pairs
value_by bytes m t = value_of_float (variable_of (stated_at bytes m)) t

-- and what trees for several give
abbrev pub values_by : List ℕ → List ℕ → List (List WSym) → Pairs
values_by bytes [] ts = []
values_by bytes (m ∷ ms) [] = []
values_by bytes (m ∷ ms) (t ∷ ts) = value_by bytes m t ++ values_by bytes ms ts

-- these are the values, and each is surely found
pub record AreValues (bytes : List ℕ) (set : Settings) (ids : List ℕ) (ts : List (List WSym)) (s : Pairs) : Type 0 where
  pub are : s ≡ values_by bytes ids ts
  pub found : All (λ p. is_surely_found bytes set p.1 ≡ true) s

-- the strings of the last n trees that stand
abbrev pub last_targets : Grove → ℕ → List (List WSym)
last_targets g n = map target_of (drop (length g.standing - n) g.standing)

-- ## One step more

-- the number of trees that a step takes which names a statement
abbrev pub takes : List ℕ → ℕ → ℕ
takes bytes id = length (premise_ids bytes id)

-- A step that names a statement takes the last trees that stand: they give its values, and prove its hypotheses under them.
pub record LaysKnown (bytes : List ℕ) (set : Settings) (id : ℕ) (g h : Grove) : Type 0 where
  pub sigma : Pairs
  pub target : List WSym
  pub many : takes bytes id ≤ length g.standing
  pub values : AreValues bytes set (premise_ids bytes id) (last_targets g (takes bytes id)) sigma
  pub fits : last_targets g (takes bytes id) ≡ map (applied sigma) (map (statement_of bytes) (premise_ids bytes id))
  pub target_is : target ≡ applied sigma (statement_of bytes id)
  pub short : length target ≤ most_symbols
  pub more : h ≡ grown g (length g.standing - takes bytes id) (known target id sigma (drop (length g.standing - takes bytes id) g.standing))

-- A step that refers back lays out the tree of an earlier step once more, where the labels from a place on are those of that
-- tree, which begin at another.
pub record LaysAgain (labels : List (Option ℕ)) (begin step : ℕ) (g h : Grove) : Type 0 where
  pub there : step < length g.made
  pub room : sum_by size_of g.standing + size_of (get_or g.made step no_tree) ≤ length labels
  pub same : take (size_of (get_or g.made step no_tree)) (drop begin labels) ≡ take (size_of (get_or g.made step no_tree)) (drop (sum_by size_of g.standing) labels)
  pub more : h ≡ grown g (length g.standing) (get_or g.made step no_tree)

-- ## All steps so far

-- each step of a tree is sound for the theorem at, with no work variable drawn, and has its own strings
pub record HasOwnSteps (bytes : List ℕ) (at : ℕ) (set : Settings) (x : Plain) : Type 0 where
  pub sound : IsSound (first_setting bytes at) x
  pub own : Each (IsOwnStep bytes set) (steps_of x)

-- the labels of a tree are those from a place on
pub record BeginsAt (labels : List (Option ℕ)) (begin : ℕ) (x : Plain) : Type 0 where
  pub within : begin + size_of x ≤ length labels
  pub labels_are : labels_in x ≡ take (size_of x) (drop begin labels)

-- the trees have their own steps; the labels of those that stand are the first ones, and those of each step begin at a place
pub record IsLaidOut (bytes : List ℕ) (at : ℕ) (set : Settings) (labels : List (Option ℕ)) (g : Grove) (begins : List ℕ) : Type 0 where
  pub standing : AllByRecursion (HasOwnSteps bytes at set) g.standing
  pub made : AllByRecursion (HasOwnSteps bytes at set) g.made
  pub within : sum_by size_of g.standing ≤ length labels
  pub labels_are : flat_map labels_in g.standing ≡ take (sum_by size_of g.standing) labels
  pub count : length begins ≡ length g.made
  pub begin : (j : ℕ) → j < length g.made → BeginsAt labels (get_or begins j 0) (get_or g.made j no_tree)
