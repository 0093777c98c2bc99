use Rattle.mm_edit_commands.proofs.EditFits.{of_target}
use Rattle.mm_edit_commands.proofs.unify.unify_numbered.Goals as goal

pub unify_step-requires-clause-valid : goal.unify_step-requires-clause-valid
unify_step-requires-clause-valid g c = of_target c.args.database.now c.args.theorem.0 c.args.tree.now.proof c.requires.valid
