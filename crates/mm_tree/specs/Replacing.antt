-- A known step that names another statement: which trees its children take.
use Rattle.std.specs.Prelude.{◌≡◌, ℕ, ◌+◌, ◌-◌, ◌*◌, ◌≤◌, ◌<◌, max, Bool, true, false, List, [], ◌∷◌, map, length, is_some, Option, None, Some, Result, Ok, Err, if◌then◌else◌}
use Rattle.std.specs.List.{list_any, sum_by}
use Rattle.std.specs.Cmp.Lexicographic.{pointwise}
use Rattle.mm_subst.specs.declared.symbol.WSym.{WSym}
use Rattle.mm_subst.specs.Substitutions.{Pairs, applied}
use Rattle.mm_subst.specs.Symbols.{is_same}
use Rattle.mm_plain.specs.Binding.{bound, bound_in}
use Rattle.mm_plain.specs.Children.{children_of}
use Rattle.mm_plain.specs.declared.plain.Plain.{Plain}
use Rattle.mm_plain.specs.declared.plain.Plain.TheOpen.{Plain-F}
use Rattle.mm_plain.specs.declared.plain.Plain.TheOpen as P
use Rattle.mm_plain.specs.declared.plain.Plain.TheViews as V
use Rattle.mm_plain.specs.Grafts.{grafted_in}
use Rattle.mm_plain.specs.Lengths.{first_long}
use Rattle.mm_plain.specs.Premises.{premises_of}
use Rattle.mm_plain.specs.Shape.{Proof, unknown, known, size_of, height_of, step_at, target_of, greatest}
use Rattle.mm_plain.specs.Valid.{most_steps, most_levels, placed_in}
use Rattle.mm_tree.specs.Lines.{Line}
use Rattle.mm_tree.specs.Meanings.{mean, means, count, youngest}
use Rattle.mm_tree.specs.declared.fault.ReplaceFault.{ReplaceFault}
use Rattle.mm_tree.specs.declared.fault.ReplaceFault.TheVariants.{TooLong, TooManySteps, TooDeep, Memory}
use Rattle.mm_tree.specs.declared.timed.TimedTree.{TimedTree}

-- the number that a step has once it is cleared: that of the first step of its tree
abbrev pub number_cleared : Plain → ℕ → ℕ
number_cleared x k = (k + 1) - size_of (step_at x k)

-- and the number that it has over unknown steps for the premises of a statement
abbrev pub number_over : List ℕ → Plain → ℕ → ℕ → ℕ
number_over bytes x k id = number_cleared x k + length (premises_of bytes id)

-- the first of some trees that proves a string; else an unknown step for it
abbrev pub first_with : List Plain → List WSym → Plain
first_with [] t = unknown t
first_with (x ∷ xs) t = if pointwise is_same (target_of x) t then x else first_with xs t

abbrev pub refilled_layer : List Plain → Plain-F Plain → Plain
refilled_layer olds (P.Unknown t) = unknown t
refilled_layer olds (P.Known t l s kids) = known t l s (map (λ y. first_with olds (target_of y)) kids)

-- a step whose children take these trees, each the first that proves its target
unfoldable pub refilled : List Plain → Plain → Plain
refilled olds x = refilled_layer olds (V.out-Plain x)

-- the proof in which the children of a step do so
abbrev pub refilled_in : Proof → ℕ → List Plain → Proof
refilled_in p k olds = grafted_in p k (refilled olds (step_at p.plain k))

-- whether a string of some tree is too long
abbrev pub are_long : List ℕ → List Plain → Bool
are_long bytes xs = list_any (λ x. is_some (first_long bytes x)) xs

-- ## Under a substitution

-- the trees of a step's children
abbrev pub olds_under : Pairs → Plain → ℕ → List Plain
olds_under theta x k = map (bound theta) (children_of (step_at x k))

-- the proof whose step names a statement, over the trees of its old children that fit
abbrev pub replaced_in : List ℕ → Proof → ℕ → ℕ → Pairs → Pairs → Proof
replaced_in bytes p k id sigma theta = refilled_in (bound_in theta (placed_in bytes p k id sigma)) (number_over bytes p.plain k id) (olds_under theta p.plain k)

abbrev pub long_at : Option ℕ → Bool → ℕ → Option ℕ
long_at (Some s) b m = Some s
long_at None true m = Some m
long_at None false m = None

-- The step with a string that is too long: the first such in the tree over unknown steps; else the step itself, where one of
-- its old children has such a string.
abbrev pub long_step : List ℕ → Proof → ℕ → ℕ → Pairs → Pairs → Option ℕ
long_step bytes p k id sigma theta =
    long_at (first_long bytes (bound theta (placed_in bytes p k id sigma).plain)) (are_long bytes (olds_under theta p.plain k)) (number_over bytes p.plain k id)

-- No string is too long, and the proof is now q, which is not too large; or that is refused, or memory ran out, and nothing is
-- said of the proof.
abbrev pub IsReplaced : Result Unit ReplaceFault → Proof → Option ℕ → Proof → Type 0
IsReplaced (Ok u) now long q = (long ≡ None) × (now ≡ q) × (size_of q.plain ≤ most_steps) × (height_of q.plain ≤ most_levels)
IsReplaced (Err (TooLong step)) now long q = long ≡ Some step
IsReplaced (Err TooManySteps) now long q = (long ≡ None) × (most_steps < size_of q.plain)
IsReplaced (Err TooDeep) now long q = (long ≡ None) × (size_of q.plain ≤ most_steps) × (most_levels < height_of q.plain)
IsReplaced (Err Memory) now long q = Unit {0}

-- ## As they are kept

-- the tree is the first of some that, under theta, proves a goal; or else an unknown step for the goal
pub record IsChildWith (theta : Pairs) (line : Line) (olds : List TimedTree) (goal : List WSym) (birth : ℕ) (x : TimedTree) : Type 0 where
  pub meaning : bound theta (mean x line) ≡ first_with (map (bound theta) (means line olds)) (applied theta goal)
  pub born : youngest x ≤ max (greatest (map youngest olds)) birth
  pub few : count x ≤ sum_by count olds + 1

-- so is each of several
pub record AreChildrenWith (theta : Pairs) (line : Line) (olds : List TimedTree) (goals : List (List WSym)) (birth : ℕ) (xs : List TimedTree) : Type 0 where
  pub meaning : map (bound theta) (means line xs) ≡ map (λ (t : List WSym). first_with (map (bound theta) (means line olds)) (applied theta t)) goals
  pub born : greatest (map youngest xs) ≤ max (greatest (map youngest olds)) birth
  pub few : sum_by count xs ≤ 1000000 * length goals
