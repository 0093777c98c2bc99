use Rattle.std.proofs.Common.{[]}
use Rattle.mm_edit.specs.Letting.{variable_let}
use Rattle.mm_edit_commands.proofs.EditFits.{of_target}
use Rattle.mm_edit_commands.proofs.EditLemmas.{edit_done, edit_refused}
use Rattle.mm_edit_commands.specs.Refusals.{edit_refusal}
use Rattle.mm_edit_commands.proofs.let_text.let_variable_be.Goals as goal

pub let_variable-requires-clause-valid : goal.let_variable-requires-clause-valid
let_variable-requires-clause-valid g c = of_target c.args.database.now c.args.theorem.0 c.args.tree.now.proof c.requires.valid

pub returns-in-Ok-clause-edited : goal.returns-in-Ok-clause-edited
returns-in-Ok-clause-edited g c = (edit_done (edit_refusal [] c.args.number) (variable_let c.args.database.now c.args.tree.now.proof c.args.number c.args.value.now) c.args.tree.now.proof c.let_variable.new.tree.proof c.in-Ok.ensures.done)

pub returns-in-Err-clause-edited : goal.returns-in-Err-clause-edited
returns-in-Err-clause-edited g c = rw (c.edit_refusal.ensures) (edit_refused [] c.args.number (variable_let c.args.database.now c.args.tree.now.proof c.args.number c.args.value.now) c.in-Err.fault c.args.tree.now.proof c.let_variable.new.tree.proof c.in-Err.ensures.done)
