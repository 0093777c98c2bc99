use Rattle.mm_unify.specs.Forbidden.{forbidden_by}
use Rattle.mm_unify.specs.Search.{root}
use Rattle.mm_unify.specs.Listings.{answer}
use Rattle.mm_unify.proofs.Weight.{side_of}
use Rattle.mm_unify.proofs.Remains.{Remains, further}
use Rattle.mm_unify.proofs.search.search_nodes.Given as goal

abbrev pub invariant-loop-node : goal.invariant-loop-node
invariant-loop-node l = Remains (forbidden_by l.pairs) (answer (forbidden_by l.pairs) l.fn.trials l.a l.b) l.found.items l.left (side_of (root l.a l.b)) l.nodes.items

abbrev pub decreases-loop-node : goal.decreases-loop-node
decreases-loop-node l = further l.left (side_of (root l.a l.b)) l.nodes.items
