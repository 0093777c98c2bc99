use Rattle.std.proofs.Common.{ℕ, [], Err, ap, subst}
use Rattle.mm_stated.specs.Stated.{is_hypothesis}
use Rattle.mm_shell.specs.Answers.{or_refusal}
use Rattle.mm_edit_commands.specs.Edits.{EditsTree}
use Rattle.mm_edit.specs.Improving.{improved}
use Rattle.mm_edit.specs.Proving.{proofs_found}
use Rattle.mm_edit_commands.proofs.EditFits.{of_target}
use Rattle.mm_edit_commands.proofs.EditLemmas.{edit_done, edit_refused}
use Rattle.mm_edit_commands.specs.Refusals.{edit_refusal}
use Rattle.mm_edit_commands.proofs.improve.improve_numbered.Goals as goal

pub improve-requires-clause-assertion : goal.improve-requires-clause-assertion
improve-requires-clause-assertion g c = ap is_hypothesis c.requires.theorem

pub improve-requires-clause-valid : goal.improve-requires-clause-valid
improve-requires-clause-valid g c = of_target c.args.database.now c.args.theorem.0 c.args.tree.now.proof c.requires.valid

pub returns-in-Ok-clause-edited : goal.returns-in-Ok-clause-edited
returns-in-Ok-clause-edited g c =
    rw (← c.depth_of-depth.ensures) (edit_done (edit_refusal [] c.args.step) (improved (proofs_found c.args.database.now c.args.theorem.0 c.args.settings.now c.args.no_distinct c.depth_of-depth.result) c.args.tree.now.proof c.args.step) c.args.tree.now.proof c.improve.new.tree.proof c.in-Ok.ensures.done)

pub returns-in-Err-clause-edited : goal.returns-in-Err-clause-edited
returns-in-Err-clause-edited g c =
    let p = c.args.tree.now.proof in
    let k = c.args.step in
    subst (λ (d : ℕ). EditsTree (or_refusal (improved (proofs_found c.args.database.now c.args.theorem.0 c.args.settings.now c.args.no_distinct d) p k) (edit_refusal [] k)) p (Err c.edit_refusal.result) c.improve.new.tree.proof) c.depth_of-depth.ensures
    (rw c.edit_refusal.ensures (edit_refused [] k (improved (proofs_found c.args.database.now c.args.theorem.0 c.args.settings.now c.args.no_distinct c.depth_of-depth.result) p k) c.in-Err.fault p c.improve.new.tree.proof c.in-Err.ensures.done))
