-- The tree of a node, and what a node keeps of it.
use Rattle.std.specs.Prelude.{◌≡◌, ℕ, Bool, List, map}
use Rattle.std.specs.List.{sum_by}
use Rattle.std.specs.declared.rc.Rc.{Rc}
use Rattle.std.specs.declared.alloc.Global.{Global}
use Rattle.mm_tree.specs.declared.timed.TimedTree.{TimedTree}
use Rattle.mm_tree.specs.declared.node.Step.{Step}
use Rattle.mm_tree.specs.declared.node.Step.TheVariants.{Unknown, Known}
use Rattle.mm_tree.specs.Meanings.{unknown_timed, known_timed, count, tall, unknown_count, is_live}

abbrev pub Shared : Type 0
Shared = Rc TimedTree Global

abbrev pub values : List Shared → List TimedTree
values kids = map (λ (r : Shared). r.value) kids

abbrev pub counts : List Shared → ℕ
counts kids = sum_by (λ (r : Shared). count r.value) kids

abbrev pub timed_of : Step → TimedTree
timed_of (Unknown t) = unknown_timed t.value
timed_of (Known t l s kids) = known_timed t.value l s.value (values kids.items)

-- the numbers and the flag that a node keeps are those of its tree
pub record IsNoted (x : TimedTree) (steps levels unknowns : ℕ) (live : Bool) : Type 0 where
  pub steps_are : steps ≡ count x
  pub levels_are : levels ≡ tall x
  pub unknowns_are : unknowns ≡ unknown_count x
  pub live_is : live ≡ is_live x
