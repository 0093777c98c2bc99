use Rattle.mm_tree.specs.Meanings.{count}
use Rattle.mm_tree.proofs.node.+put.Given as goal

abbrev pub decreases-put : goal.decreases-put
decreases-put g l = count l.node.now
