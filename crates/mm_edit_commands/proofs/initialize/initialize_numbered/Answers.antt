use Rattle.std.proofs.Common.{[]}
use Rattle.mm_edit.specs.Initializing.{initialized}
use Rattle.mm_edit_commands.proofs.EditFits.{of_target}
use Rattle.mm_edit_commands.proofs.EditLemmas.{edit_done, edit_refused}
use Rattle.mm_edit_commands.specs.Refusals.{edit_refusal}
use Rattle.mm_edit_commands.proofs.initialize.initialize_numbered.Goals as goal

pub initialize-requires-clause-valid : goal.initialize-requires-clause-valid
initialize-requires-clause-valid g c = of_target c.args.database.now c.args.theorem.0 c.args.tree.now.proof c.requires.valid

pub returns-in-Ok-clause-edited : goal.returns-in-Ok-clause-edited
returns-in-Ok-clause-edited g c = edit_done (edit_refusal [] c.args.step) (initialized c.args.database.now c.args.tree.now.proof c.args.step) c.args.tree.now.proof c.initialize.new.tree.proof c.in-Ok.ensures.done

pub returns-in-Err-clause-edited : goal.returns-in-Err-clause-edited
returns-in-Err-clause-edited g c = rw c.edit_refusal.ensures (edit_refused [] c.args.step (initialized c.args.database.now c.args.tree.now.proof c.args.step) c.in-Err.fault c.args.tree.now.proof c.initialize.new.tree.proof c.in-Err.ensures.done)
