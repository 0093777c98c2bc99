-- A tree as it is kept, in which the children for floating hypotheses are unknown.
use Rattle.std.specs.Prelude.{ℕ, Bool, false, List, [], ◌∷◌, Option, None, Some, if◌then◌else◌}
use Rattle.std.specs.List.{slice_get}
use Rattle.mm_plain.specs.Floats.{is_float}
use Rattle.mm_plain.specs.Premises.{premise_ids}
use Rattle.mm_tree.specs.declared.timed.Text.{Text}
use Rattle.mm_tree.specs.declared.timed.TimedTree.{TimedTree}
use Rattle.mm_tree.specs.declared.timed.TimedTree.TheOpen.{TimedTree-F}
use Rattle.mm_tree.specs.declared.timed.TimedTree.TheOpen as T
use Rattle.mm_tree.specs.declared.timed.TimedTree.TheViews as V
use Rattle.mm_tree.specs.declared.timed.TimedTree.TheFolds as F
use Rattle.mm_tree.specs.Meanings.{unknown_timed, known_timed}
use Rattle.mm_tree.specs.View.{Shared}

abbrev pub text_layer : {A : Type 0} → TimedTree-F A → Text
text_layer (T.Unknown t) = t
text_layer (T.Known t l s kids) = t

-- the string that a step proves, as it is kept
unfoldable pub text_of : TimedTree → Text
text_of x = text_layer (V.out-TimedTree x)

abbrev pub without_floats_timed : List ℕ → List ℕ → List TimedTree → List TimedTree
without_floats_timed bytes [] xs = xs
without_floats_timed bytes (id ∷ ids) [] = []
without_floats_timed bytes (id ∷ ids) (x ∷ xs) = (if is_float bytes id then unknown_timed (text_of x) else x) ∷ without_floats_timed bytes ids xs

abbrev pub bared_timed_step : List ℕ → TimedTree-F TimedTree → TimedTree
bared_timed_step bytes (T.Unknown t) = unknown_timed t
bared_timed_step bytes (T.Known t l s kids) = known_timed t l s (without_floats_timed bytes (premise_ids bytes l) kids)

-- the tree in which each child for a `$f` is unknown
unfoldable pub bared_timed : List ℕ → TimedTree → TimedTree
bared_timed bytes = F.fold-TimedTree TimedTree (bared_timed_step bytes)

abbrev pub is_float_id : List ℕ → Option ℕ → Bool
is_float_id bytes None = false
is_float_id bytes (Some id) = is_float bytes id

-- whether the child with this index stands for a `$f`
abbrev pub is_float_at : List ℕ → List ℕ → ℕ → Bool
is_float_at bytes ids i = is_float_id bytes (slice_get ids i)

-- what becomes of a child
abbrev pub bared_as : List ℕ → Bool → TimedTree → TimedTree
bared_as bytes float x = if float then unknown_timed (text_of x) else bared_timed bytes x

-- the new tree, or else the old one
abbrev pub new_or : Option Shared → TimedTree → TimedTree
new_or None x = x
new_or (Some r) x = r.value
