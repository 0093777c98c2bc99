use Rattle.std.proofs.Common.{[]}
use Rattle.mm_edit.specs.Deleting.{deleted}
use Rattle.mm_edit_commands.proofs.EditLemmas.{edit_done, edit_refused}
use Rattle.mm_edit_commands.specs.Refusals.{edit_refusal}
use Rattle.mm_edit_commands.proofs.delete.delete_numbered.Goals as goal

pub returns-in-Ok-clause-edited : goal.returns-in-Ok-clause-edited
returns-in-Ok-clause-edited g c = edit_done (edit_refusal [] c.args.step) (deleted c.args.tree.now.proof c.args.step) c.args.tree.now.proof c.delete.new.tree.proof c.in-Ok.ensures.done

pub returns-in-Err-clause-edited : goal.returns-in-Err-clause-edited
returns-in-Err-clause-edited g c = rw c.edit_refusal.ensures (edit_refused [] c.args.step (deleted c.args.tree.now.proof c.args.step) c.in-Err.fault c.args.tree.now.proof c.delete.new.tree.proof c.in-Err.ensures.done)
