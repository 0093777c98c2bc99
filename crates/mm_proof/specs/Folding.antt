-- What a list of steps folds to.
use Rattle.std.specs.Prelude.{ℕ, ◌-◌, Bool, List, [], ◌∷◌, ◌++◌, length, take, drop, slice_get, Option, None, Some, nat_le, if◌then◌else◌}
use Rattle.mm_proof.specs.Trees.{Tree, none, tree, trees_of}
use Rattle.mm_proof.specs.declared.written.Step.{Step}
use Rattle.mm_proof.specs.declared.written.Step.TheVariants.{Label, Unknown, Back}

-- goes on where there is a value
abbrev pub onward : {A B : Type 0} → Option A → (A → Option B) → Option B
onward None f = None
onward (Some x) f = f x

-- whether a stack has a tree for each hypothesis of a label
abbrev pub has_enough : (ℕ → ℕ) → List Tree → ℕ → Bool
has_enough arity stack l = nat_le (arity l) (length stack)

-- what stays of a stack under a label
abbrev pub kept : (ℕ → ℕ) → List Tree → ℕ → List Tree
kept arity stack l = take (length stack - arity l) stack

-- a label with the last trees of a stack as its children
abbrev pub joined : (ℕ → ℕ) → List Tree → ℕ → Tree
joined arity stack l = tree l (trees_of (drop (length stack - arity l) stack))

-- a stack after a label
abbrev pub reduced : (ℕ → ℕ) → List Tree → ℕ → Option (List Tree)
reduced arity stack l = if has_enough arity stack l then Some (kept arity stack l ++ joined arity stack l ∷ []) else None

-- the stack after labels in postorder
unfoldable pub built : (ℕ → ℕ) → List Tree → List ℕ → Option (List Tree)
built arity stack [] = Some stack
built arity stack (l ∷ ls) = onward (reduced arity stack l) (λ next. built arity next ls)

-- the trees for which the steps so far stand, and the stack
pub record Folded : Type 0 where
  pub trees : List Tree
  pub stack : List Tree

abbrev pub nothing : Folded
nothing = record { trees = []; stack = [] }

-- a step that stands for a tree, over what stays of the stack
abbrev pub pushed : Folded → List Tree → Tree → Folded
pushed f stack t = record { trees = f.trees ++ t ∷ []; stack = stack ++ t ∷ [] }

abbrev pub fold_step : (ℕ → ℕ) → Folded → Step → Option Folded
fold_step arity f (Label l) = if has_enough arity f.stack l then Some (pushed f (kept arity f.stack l) (joined arity f.stack l)) else None
fold_step arity f Unknown = Some (pushed f f.stack (tree 0 none))
fold_step arity f (Back k) = onward (slice_get f.trees k) (λ t. Some (pushed f f.stack t))

-- the fold of steps; a back reference is a copy
unfoldable pub folded : (ℕ → ℕ) → Folded → List Step → Option Folded
folded arity f [] = Some f
folded arity f (s ∷ ss) = onward (fold_step arity f s) (λ next. folded arity next ss)

-- the trees that steps fold to
abbrev pub fold : (ℕ → ℕ) → List Step → Option (List Tree)
fold arity steps = onward (folded arity nothing steps) (λ f. Some f.stack)
