use Rattle.mm_improve.proofs.Unfolding as unfolding_trees
use Rattle.mm_improve.proofs.laws.trees_unfold.Goals as goal

pub returns : goal.returns
returns c = unfolding_trees.unfolds
