-- The steps that are written for trees: a subtree that is already written whole is written as a back reference.
use Rattle.std.specs.Prelude.{◌≡◌, ℕ, Bool, not, ◌&&◌, ◌==◌, List, [], ◌∷◌, ◌++◌, length, Option, None, Some, if◌then◌else◌}
use Rattle.mm_proof.specs.Trees.{Tree, Trees, none, more, tree, trees_of, same_tree, is_some_tree, has_unknown}
use Rattle.mm_proof.specs.Folding.{built}
use Rattle.mm_proof.specs.declared.written.Step.{Step}
use Rattle.mm_proof.specs.declared.written.Step.TheVariants.{Label, Unknown, Back}

-- a tree that is written whole, and which step is its own
pub record Whole : Type 0 where
  pub tree : Tree
  pub place : ℕ

pub record Writing : Type 0 where
  pub steps : List Step
  pub seen : List Whole

abbrev pub start : Writing
start = record { steps = []; seen = [] }

-- where a tree is written whole
abbrev pub found : List Whole → Tree → Option ℕ
found [] t = None
found (w ∷ ws) t = if same_tree w.tree t then Some w.place else found ws t

-- a tree that is worth a back reference: with children, and without an unknown step
abbrev pub is_shared : Tree → Bool
is_shared t = is_some_tree t.children && not (has_unknown (more t.label t.children none))

abbrev pub earlier : List Whole → Tree → Option ℕ
earlier seen t = if is_shared t then found seen t else None

abbrev pub named : ℕ → Step
named l = if l == 0 then Unknown else Label l

-- what is seen where a tree's own step is the one with this place
abbrev pub with_whole : List Whole → Tree → ℕ → List Whole
with_whole seen t place = if is_shared t then seen ++ record { tree = t; place = place } ∷ [] else seen

-- a tree, whose children lead from the one writing to the other
abbrev pub put : Option ℕ → Tree → Writing → Writing → Writing
put (Some k) t before walked = record { steps = before.steps ++ Back k ∷ []; seen = before.seen }
put None t before walked =
    record { steps = walked.steps ++ named t.label ∷ []; seen = with_whole walked.seen t (length walked.steps) }

-- trees, written behind others
unfoldable pub written : Writing → Trees → Writing
written w none = w
written w (more l cs rest) = written (put (earlier w.seen (tree l cs)) (tree l cs) w (written w cs)) rest

-- the steps of one tree
abbrev pub compact : Tree → List Step
compact t = (written start (trees_of (t ∷ []))).steps

abbrev pub alone : List Tree → Option Tree
alone [] = None
alone (t ∷ []) = Some t
alone (t ∷ u ∷ ts) = None

-- the steps of the one tree that labels in postorder are, if they are one
abbrev pub Compacts : (ℕ → ℕ) → List ℕ → List Step → Type 0
Compacts arity labels steps = (t : Tree) → built arity [] labels ≡ Some (t ∷ []) → steps ≡ compact t
