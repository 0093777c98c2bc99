use Rattle.mm_tree.specs.Meanings.{count}
use Rattle.mm_tree.proofs.node.Node.+at.Given as goal

abbrev pub decreases-at : goal.decreases-at
decreases-at l = count l.self.now
