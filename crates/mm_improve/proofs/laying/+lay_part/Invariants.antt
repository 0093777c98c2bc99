use Rattle.std.proofs.Common.{◌∷◌, ◌-◌, map, take}
use Rattle.mm_improve.specs.Proving.{rank_limit}
use Rattle.mm_improve.specs.Searches.{terms}
use Rattle.mm_improve.specs.Traces.{tree_at}
use Rattle.mm_improve.proofs.LayingLemmas.{AreLaid}
use Rattle.mm_improve.proofs.laying.+lay_part.Given as goal

abbrev pub decreases-lay_part : goal.decreases-lay_part
decreases-lay_part l = l.left

abbrev pub invariant-loop-kid : goal.invariant-loop-kid
invariant-loop-kid l = AreLaid l.initial.plan (map (tree_at (terms l.db l.search) (rank_limit l.db (l.goal ∷ l.text)) l.text) (take l.kid-index l.kid-items)) (l.left - 1) l.plan
