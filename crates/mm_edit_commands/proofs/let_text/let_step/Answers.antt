use Rattle.std.proofs.Common.{sym, ◌∙◌}
use Rattle.mm_edit.specs.Letting.{step_let}
use Rattle.mm_edit_commands.proofs.EditLemmas.{let_given, let_refused}
use Rattle.mm_edit_commands.specs.Steps.{step_number}
use Rattle.mm_edit_commands.proofs.let_text.let_step.Goals as goal

pub returns-in-Err-clause-edited : goal.returns-in-Err-clause-edited
returns-in-Err-clause-edited g c =
    let_refused c.args.database.now c.args.theorem.0 c.args.tree.now.proof c.args.text.now c.args.word (step_number c.args.tree.now.proof.plain c.args.step) (step_let c.args.database.now c.args.settings.now c.args.tree.now.proof (step_number c.args.tree.now.proof.plain c.args.step)) (sym c.is_empty.ensures ∙ c.if-is_empty.false) c.in-Err.refusal c.in-Err.ensures

pub returns-in-Ok-clause-edited : goal.returns-in-Ok-clause-edited
returns-in-Ok-clause-edited g c =
    let_given c.args.database.now c.args.theorem.0 c.args.tree.now.proof c.args.text.now c.args.word (step_number c.args.tree.now.proof.plain c.args.step) (step_let c.args.database.now c.args.settings.now c.args.tree.now.proof (step_number c.args.tree.now.proof.plain c.args.step)) (sym c.is_empty.ensures ∙ c.if-is_empty.false) c.in-Ok.value c.let_step_be.result c.let_step_be.new.tree.proof c.in-Ok.ensures c.let_step_be.ensures.edited
