use Rattle.mm_tree.specs.Meanings.{count}
use Rattle.mm_tree.proofs.graft.+share_at.Given as goal

abbrev pub decreases-share_at : goal.decreases-share_at
decreases-share_at l = count l.node.now.value
