use Rattle.std.proofs.Common.{ℕ}
use Rattle.mm_edit.specs.Replacing.{replaced}
use Rattle.mm_edit_commands.specs.Steps.{step_number}
use Rattle.mm_edit_commands.proofs.EditFits.{of_target}
use Rattle.mm_edit_commands.proofs.EditLemmas.{step_done, step_refused}
use Rattle.mm_edit_commands.proofs.replace.replace_statement.Goals as goal

pub replace-requires-clause-valid : goal.replace-requires-clause-valid
replace-requires-clause-valid g c = of_target c.args.database.now c.args.theorem.0 c.args.tree.now.proof c.requires.valid

pub returns-in-Ok-clause-edited : goal.returns-in-Ok-clause-edited
returns-in-Ok-clause-edited g c =
    step_done c.args.label.now c.in_ok-step.step (step_number c.args.tree.now.proof.plain c.args.step) (λ (k : ℕ). replaced c.args.database.now c.args.theorem.0 c.args.settings.now c.args.tree.now.proof k c.args.id.0)
    c.args.tree.now.proof c.replace.new.tree.proof c.in_ok-step.ensures c.in-Ok.ensures.done

pub returns-in-Err-clause-edited : goal.returns-in-Err-clause-edited
returns-in-Err-clause-edited g c =
    step_refused c.args.label.now c.in_ok-step.step (step_number c.args.tree.now.proof.plain c.args.step) (λ (k : ℕ). replaced c.args.database.now c.args.theorem.0 c.args.settings.now c.args.tree.now.proof k c.args.id.0)
    c.in-Err.fault c.args.tree.now.proof c.replace.new.tree.proof c.edit_refusal.result c.in_ok-step.ensures c.edit_refusal.ensures c.in-Err.ensures.done
