use Rattle.mm_command.specs.Meanings.{meaning_of}
use Rattle.mm_database_commands.specs.Commands.{database_plan}
use Rattle.mm_step.proofs.RunLemmas.{runs_changed}
use Rattle.mm_step.proofs.line.run_database.Goals as goal

pub returns-in-Err-clause-effect : goal.returns-in-Err-clause-effect
returns-in-Err-clause-effect g c = c.in-Err.ensures.effect c.args.state.now

pub returns-in-Ok-clause-effect : goal.returns-in-Ok-clause-effect
returns-in-Ok-clause-effect g c =
    runs_changed g.F.Files (database_plan (meaning_of c.args.command) c.args.state.now) c.args.state.now _ c.args.files.now _ _ _ (c.in-Ok.ensures.effect c.args.state.now) c.apply_change.ensures
