-- Trees that are laid out step by step, before a node is made.
use Rattle.std.specs.Prelude.{◌≡◌, ℕ, ◌-◌, ◌≤◌, ◌<◌, List, [], ◌∷◌, ◌++◌, map, length, take, drop, get_or}
use Rattle.std.specs.List.{sum_by}
use Rattle.mm_plain.specs.declared.plain.Plain.{Plain}
use Rattle.mm_plain.specs.Shape.{known, unknown, size_of, target_of}
use Rattle.mm_plain.specs.Valid.{most_steps}
use Rattle.mm_tree.specs.declared.timed.Text.{Text}
use Rattle.mm_tree.specs.declared.timed.TimedTree.{TimedTree}
use Rattle.mm_tree.specs.Meanings.{known_timed}
use Rattle.mm_tree.specs.Written.{written}
use Rattle.mm_tree.specs.declared.plan.Note.{Note}
use Rattle.mm_tree.specs.declared.plan.Plan.{Plan}
use Rattle.mm_tree.specs.declared.plan.PlanStep.{PlanStep}
use Rattle.mm_tree.specs.declared.plan.PlanStep.TheVariants.{Known, Again}

-- the trees that stand, and the tree of each step
pub record Grove : Type 0 where
  pub standing : List Plain
  pub made : List Plain

abbrev pub no_grove : Grove
no_grove = record { standing = []; made = [] }

abbrev pub no_tree : Plain
no_tree = unknown []

-- a tree stands in place of those behind the first ones, and is that of one step more
abbrev pub grown : Grove → ℕ → Plain → Grove
grown g stay x = record { standing = take stay g.standing ++ x ∷ []; made = g.made ++ x ∷ [] }

-- how many of the trees stay at a step
abbrev pub stay_of : PlanStep → ℕ → ℕ
stay_of (Known t l s takes) n = n - takes
stay_of (Again k) n = n

-- the tree of a step
abbrev pub tree_by : PlanStep → Grove → Plain
tree_by (Known t l s takes) g = known t.value.string l s.value.pairs (drop (length g.standing - takes) g.standing)
tree_by (Again k) g = get_or g.made k no_tree

abbrev pub with_step : PlanStep → Grove → Grove
with_step o g = grown g (stay_of o (length g.standing)) (tree_by o g)

abbrev pub with_steps : List PlanStep → Grove → Grove
with_steps [] g = g
with_steps (o ∷ os) g = with_steps os (with_step o g)

-- the same tree as it is kept
abbrev pub timed_by : PlanStep → List TimedTree → List TimedTree → TimedTree
timed_by (Known t l s takes) standing made = known_timed t.value l s.value (drop (length standing - takes) standing)
timed_by (Again k) standing made = get_or made k (written 0 no_tree)

-- the trees of a plan
abbrev pub grove_of : Plan → Grove
grove_of p = with_steps p.items.items no_grove

-- what is kept of a tree
abbrev pub kept_of : Note → Text × ℕ
kept_of n = (n.text.value, n.steps)

abbrev pub note_of : Plain → Text × ℕ
note_of x = (record { birth = 0; string = target_of x }, size_of x)

abbrev pub IsNoteOf : Note → Plain → Type 0
IsNoteOf n x = kept_of n ≡ note_of x

-- a step that is named is there
abbrev pub IsThere : ℕ → PlanStep → Type 0
IsThere n (Known t l s takes) = Unit {0}
IsThere n (Again k) = k < n

-- the strings of a step are new
abbrev pub IsNew : PlanStep → Type 0
IsNew (Known t l s takes) = (t.value.birth ≡ 0) × (s.value.birth ≡ 0)
IsNew (Again k) = Unit {0}

abbrev pub IsFit : Grove → PlanStep → Type 0
IsFit g o = IsNew o × IsThere (length g.made) o

-- so are all, and no more steps stand than a tree may have
abbrev pub AreFit : Grove → List PlanStep → Type 0
AreFit g [] = sum_by size_of g.standing ≤ most_steps
AreFit g (o ∷ os) = (sum_by size_of g.standing ≤ most_steps) × IsFit g o × AreFit (with_step o g) os

-- the notes and the number of steps are those of the trees
pub record IsPlan (p : Plan) : Type 0 where
  pub standing : map kept_of p.standing.items ≡ map note_of (grove_of p).standing
  pub made : map kept_of p.made.items ≡ map note_of (grove_of p).made
  pub total : p.total ≡ sum_by size_of (grove_of p).standing
  pub fit : AreFit no_grove p.items.items
  pub own : length p.items.items ≤ p.total
