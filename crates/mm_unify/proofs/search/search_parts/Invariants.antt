use Rattle.std.proofs.Common.{map}
use Rattle.mm_unify.specs.Forbidden.{forbidden_by}
use Rattle.mm_unify.specs.Search.{root}
use Rattle.mm_unify.specs.Listings.{answer}
use Rattle.mm_unify.specs.Frames.{node_in}
use Rattle.mm_unify.proofs.Weight.{side_of}
use Rattle.mm_unify.proofs.Remains.{further}
use Rattle.mm_unify.proofs.Searching.{Searching}
use Rattle.mm_unify.proofs.search.search_parts.Given as goal

abbrev pub invariant-loop-frame : goal.invariant-loop-frame
invariant-loop-frame l = Searching (forbidden_by l.pairs) (answer (forbidden_by l.pairs) l.fn.trials l.pattern l.target) l.pattern l.target l.path.items l.frames.items l.found.items l.left

abbrev pub decreases-loop-frame : goal.decreases-loop-frame
decreases-loop-frame l = further l.left (side_of (root l.pattern l.target)) (map (node_in l.pattern l.target l.path.items) l.frames.items)
