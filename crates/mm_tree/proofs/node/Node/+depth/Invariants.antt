use Rattle.mm_tree.specs.Meanings.{count}
use Rattle.mm_tree.proofs.node.Node.+depth.Given as goal

abbrev pub decreases-depth : goal.decreases-depth
decreases-depth l = count l.self.now
