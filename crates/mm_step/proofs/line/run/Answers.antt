use Rattle.std.proofs.Common.{sym, ◌∙◌, refl}
use Rattle.mm_command.specs.Meanings.{meaning_of}
use Rattle.mm_setting_commands.specs.Commands.{setting_answer}
use Rattle.mm_edit_commands.specs.Edits.{edit_answer}
use Rattle.mm_proof_commands.specs.Commands.{proof_answer}
use Rattle.mm_step.specs.declared.group.Group.TheVariants as group
use Rattle.mm_step.proofs.ReplyLemmas.{counts_still, reply_sound}
use Rattle.mm_step.proofs.RunLemmas.{runs_apart, runs_group}
use Rattle.mm_step.proofs.line.run.Goals as goal

pub returns-in-Database-clause-effect : goal.returns-in-Database-clause-effect
returns-in-Database-clause-effect g c =
    runs_group g.F.Files group.Database (meaning_of c.args.command) c.args.state.now c.args.files.now _ _ _ (sym c.in-Database.is ∙ c.group_of.ensures) c.run_database.ensures.effect

pub returns-in-Settings : goal.returns-in-Settings
returns-in-Settings g c = record {
  effect = runs_group g.F.Files group.Settings (meaning_of c.args.command) c.args.state.now c.args.files.now c.args.files.now _ _ (sym c.in-Settings.is ∙ c.group_of.ensures)
      (runs_apart g.F.Files _ (setting_answer (meaning_of c.args.command) c.args.state.now) c.args.state.now c.args.files.now _ _ refl c.run_setting.ensures);
  told = λ t. t;
  cause = rw (reply_sound (setting_answer (meaning_of c.args.command) c.args.state.now) c.args.state.now _ c.run_setting.result c.run_setting.ensures) (counts_still _);
}

pub returns-in-Edits : goal.returns-in-Edits
returns-in-Edits g c = record {
  effect = runs_group g.F.Files group.Edits (meaning_of c.args.command) c.args.state.now c.args.files.now c.args.files.now _ _ (sym c.in-Edits.is ∙ c.group_of.ensures)
      (runs_apart g.F.Files _ (edit_answer (meaning_of c.args.command) c.args.state.now) c.args.state.now c.args.files.now _ _ refl c.run_edit.ensures);
  told = λ t. t;
  cause = rw (reply_sound (edit_answer (meaning_of c.args.command) c.args.state.now) c.args.state.now _ c.run_edit.result c.run_edit.ensures) (counts_still _);
}

pub returns-in-Session : goal.returns-in-Session
returns-in-Session g c = record {
  effect = runs_group g.F.Files group.Session (meaning_of c.args.command) c.args.state.now c.args.files.now c.args.files.now _ _ (sym c.in-Session.is ∙ c.group_of.ensures)
      (runs_apart g.F.Files _ (proof_answer (meaning_of c.args.command) c.args.state.now) c.args.state.now c.args.files.now _ _ refl c.run_proof.ensures);
  told = λ t. t;
  cause = rw (reply_sound (proof_answer (meaning_of c.args.command) c.args.state.now) c.args.state.now _ c.run_proof.result c.run_proof.ensures) (counts_still _);
}
