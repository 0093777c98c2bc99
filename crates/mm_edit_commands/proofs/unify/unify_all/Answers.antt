use Rattle.std.proofs.Common.{[]}
use Rattle.mm_edit.specs.Unifying.{all_unified}
use Rattle.mm_edit_commands.proofs.EditFits.{of_target}
use Rattle.mm_edit_commands.proofs.EditLemmas.{edit_done, edit_refused}
use Rattle.mm_edit_commands.specs.Refusals.{edit_refusal}
use Rattle.mm_edit_commands.proofs.unify.unify_all.Goals as goal

pub unify_all-requires-clause-valid : goal.unify_all-requires-clause-valid
unify_all-requires-clause-valid g c = of_target c.args.database.now c.args.theorem.0 c.args.tree.now.proof c.requires.valid

pub returns-in-Ok-clause-edited : goal.returns-in-Ok-clause-edited
returns-in-Ok-clause-edited g c = edit_done (edit_refusal [] 0) (all_unified c.args.database.now c.args.settings.now c.args.tree.now.proof) c.args.tree.now.proof c.unify_all.new.tree.proof c.in-Ok.ensures.done

pub returns-in-Err-clause-edited : goal.returns-in-Err-clause-edited
returns-in-Err-clause-edited g c = rw c.edit_refusal.ensures (edit_refused [] 0 (all_unified c.args.database.now c.args.settings.now c.args.tree.now.proof) c.in-Err.fault c.args.tree.now.proof c.unify_all.new.tree.proof c.in-Err.ensures.done)
