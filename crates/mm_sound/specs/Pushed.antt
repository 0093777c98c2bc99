-- The tree of the strings that the machine pushes, where its steps fold to a label tree.
use Rattle.std.specs.Prelude.{◌≡◌, ◌+◌, ◌≤◌, Some, Ok, ℕ, zero, suc, List, [], ◌∷◌, map, drop, slice_index, if◌then◌else◌}
use Rattle.mm_scope.specs.Contents.{stated_at}
use Rattle.mm_stack.specs.Running.{is_float}
use Rattle.mm_subst.specs.Statements.{statement_of}
use Rattle.mm_subst.specs.Substitutions.{Pairs, applied}
use Rattle.mm_subst.specs.declared.symbol.WSym.{WSym}
use Rattle.mm_subst.specs.declared.symbol.WSym.TheVariants.{Var}
use Rattle.mm_plain.specs.Premises.{premise_ids}
use Rattle.mm_plain.specs.Shape.{Proof, known, unknown, target_of}
use Rattle.mm_plain.specs.Valid.{most_levels, most_steps, most_works}
use Rattle.mm_plain.specs.declared.plain.Plain.{Plain}
use Rattle.mm_proof.specs.Decoding.{decoded}
use Rattle.mm_proof.specs.Forests.{trees_in}
use Rattle.mm_proof.specs.Shapes.{height_in, steps_in}
use Rattle.mm_proof.specs.Trees.{Tree, Trees, none, more}
use Rattle.mm_proof.specs.declared.step.ProofStep.{ProofStep}

-- the values that strings for these hypotheses give: for each `$f`, to its variable the string without the typecode
abbrev pub values_by : List ℕ → List ℕ → List (List WSym) → Pairs
values_by bytes [] ts = []
values_by bytes (m ∷ ms) [] = []
values_by bytes (m ∷ ms) (t ∷ ts) =
    if is_float (stated_at bytes m).kind then (Var (slice_index (stated_at bytes m).symbols 1), drop 1 t) ∷ values_by bytes ms ts
    else values_by bytes ms ts

-- a label's step over the trees of its hypotheses: it proves what its statement says under the values that these give
abbrev pub pushed_over : List ℕ → ℕ → List Plain → Plain
pushed_over bytes zero kids = unknown []
pushed_over bytes (suc l) kids =
    let s : Pairs = values_by bytes (premise_ids bytes l) (map target_of kids) in
    known (applied s (statement_of bytes l)) l s kids

-- the trees of label trees
unfoldable pub pushed_trees : List ℕ → Trees → List Plain
pushed_trees bytes none = []
pushed_trees bytes (more l cs rest) = pushed_over bytes l (pushed_trees bytes cs) ∷ pushed_trees bytes rest

-- the tree of a label tree
unfoldable pub pushed_tree : List ℕ → Tree → Plain
pushed_tree bytes t = pushed_over bytes t.label (pushed_trees bytes t.children)

-- with the number of the next work variable
abbrev pub pushed_proof : List ℕ → Tree → ℕ → Proof
pushed_proof bytes t next = record { plain = pushed_tree bytes t; next = next }

-- the text of a theorem's proof spells steps, which fold to the label tree t
pub record Spells (bytes : List ℕ) (at : ℕ) (t : Tree) : Type 0 where
  pub steps : List ProofStep
  pub spelled : decoded bytes at ≡ Ok steps
  pub folds : trees_in bytes steps ≡ Some (t ∷ [])

-- a label tree has no more steps and levels than a proof may have, and so many work variables may be drawn
pub record IsSmall (t : Tree) (next : ℕ) : Type 0 where
  pub few : 1 + steps_in t.children ≤ most_steps
  pub low : 1 + height_in t.children ≤ most_levels
  pub counter : (1 ≤ next) × (next ≤ most_works + 1)
