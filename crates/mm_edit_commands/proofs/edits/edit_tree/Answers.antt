use Rattle.mm_edit_commands.specs.Edits.{edit_of}
use Rattle.mm_edit_commands.proofs.edits.edit_tree.Goals as goal

pub returns-in-Assign-clause-edited : goal.returns-in-Assign-clause-edited
unfolding edit_of
returns-in-Assign-clause-edited g c = rw c.in-Assign.is c.assign.ensures.edited

pub returns-in-UnifyStep-clause-edited : goal.returns-in-UnifyStep-clause-edited
unfolding edit_of
returns-in-UnifyStep-clause-edited g c = rw c.in-UnifyStep.is c.unify_step.ensures.edited

pub returns-in-Replace-clause-edited : goal.returns-in-Replace-clause-edited
unfolding edit_of
returns-in-Replace-clause-edited g c = rw c.in-Replace.is c.replace.ensures.edited

pub returns-in-Improve-clause-edited : goal.returns-in-Improve-clause-edited
unfolding edit_of
returns-in-Improve-clause-edited g c = rw c.in-Improve.is c.improve_step.ensures.edited
