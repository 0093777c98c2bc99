use Rattle.mm_sound.proofs.Proven.{has_tree, tree_proves, tree_labelled, tree_passes, tree_without_works}
use Rattle.mm_sound.proofs.laws.accepted_proofs_are_trees.Goals as goal

pub returns-clause-tree : goal.returns-clause-tree
returns-clause-tree c = has_tree c.args.bytes.now c.mandatory_variables_differ.ensures

pub returns-clause-proves : goal.returns-clause-proves
returns-clause-proves c = λ at next t v s small. tree_proves c.args.bytes.now c.mandatory_variables_differ.ensures at next t v s small

pub returns-clause-labels : goal.returns-clause-labels
returns-clause-labels c = tree_labelled c.args.bytes.now c.mandatory_variables_differ.ensures

pub returns-clause-plain : goal.returns-clause-plain
returns-clause-plain c = tree_without_works c.args.bytes.now c.mandatory_variables_differ.ensures

pub returns-clause-values : goal.returns-clause-values
returns-clause-values c = λ at test t v s all. tree_passes c.args.bytes.now c.mandatory_variables_differ.ensures at test t v s all
