-- The step of a part, by the parts for its hypotheses, and a step that is laid over trees.
use Rattle.std.specs.Prelude.{ℕ, ◌≡◌, ◌≤◌, ◌-◌, List, [], ◌∷◌, ◌++◌, map, take, drop, length, Result, Ok, Err}
use Rattle.std.specs.List.{AllByRecursion}
use Rattle.mm_scope.specs.Laws.{AllDiffer}
use Rattle.mm_subst.specs.declared.symbol.WSym.{WSym}
use Rattle.mm_subst.specs.declared.symbol.WSym.TheVariants.{Var}
use Rattle.mm_subst.specs.Substitutions.{Pairs}
use Rattle.mm_unify.specs.Parts.{part}
use Rattle.mm_plain.specs.Shape.{known}
use Rattle.mm_plain.specs.Valid.{most_steps}
use Rattle.mm_tree.specs.Plans.{IsPlan, grove_of}
use Rattle.mm_tree.specs.declared.plan.Plan.{Plan}
use Rattle.mm_improve.specs.declared.fault.ImproveFault.{ImproveFault}
use Rattle.mm_improve.specs.declared.fault.ImproveFault.TheVariants.{TooManySteps, TooDeep, Memory}
use Rattle.mm_chart.specs.declared.table.Part.{Part}
use Rattle.mm_improve.specs.Assertions.{Terms}
use Rattle.mm_improve.specs.Laying.{steps_in}
use Rattle.mm_improve.specs.Traces.{IsRanked, string_of, tree_at}

-- the string of a part for each variable, without its typecode
abbrev pub values_by : List WSym → List ℕ → List Part → Pairs
values_by t [] ps = []
values_by t (n ∷ ns) [] = []
values_by t (n ∷ ns) (p ∷ ps) = (Var n, part t p.from p.to) ∷ values_by t ns ps

-- The step of a part names a statement with these variables, and is over the trees of a part for each of them.
pub record IsStep (c : Terms) (r : ℕ) (goal : WSym) (t : List WSym) (p : Part) (id : ℕ) (keys : List ℕ) (kids : List Part) : Type 0 where
  pub differ : AllDiffer keys
  pub many : length kids ≡ length keys
  pub ranked : AllByRecursion (IsRanked c r goal t) kids
  pub is : tree_at c r t p ≡ known (string_of t p) id (values_by t keys kids) (map (tree_at c r t) kids)

-- a known step stands over the last trees of a plan
pub record IsPushed (old : Plan) (target : List WSym) (id : ℕ) (sigma : Pairs) (takes : ℕ) (new : Plan) : Type 0 where
  pub plan : IsPlan new
  pub standing : (grove_of new).standing ≡ take (length (grove_of old).standing - takes) (grove_of old).standing ++ known target id sigma (drop (length (grove_of old).standing - takes) (grove_of old).standing) ∷ []

-- or there is no room for it
abbrev pub Pushes : {A : Type 0} → Plan → List WSym → ℕ → Pairs → ℕ → Result A ImproveFault → Plan → Type 0
Pushes old target id sigma takes (Ok _) new = IsPushed old target id sigma takes new
Pushes old target id sigma takes (Err TooManySteps) new = most_steps ≤ steps_in old
Pushes old target id sigma takes (Err TooDeep) new = ⊥
Pushes old target id sigma takes (Err Memory) new = Unit {0}
