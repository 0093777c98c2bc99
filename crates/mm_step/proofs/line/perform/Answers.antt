use Rattle.mm_command.specs.Meanings.{meaning_of}
use Rattle.mm_database_commands.specs.Commands.{database_plan}
use Rattle.mm_step.proofs.ReplyLemmas.{counts_still, refusal_sound}
use Rattle.mm_step.proofs.RunLemmas.{runs_refused, runs_planned}
use Rattle.mm_step.proofs.line.perform.Goals as goal

pub returns-in-Err : goal.returns-in-Err
returns-in-Err g c = record {
  effect = λ s. runs_refused g.F.Files (database_plan (meaning_of c.args.command) c.args.state.now) c.in-Err.refusal c.refuse.result s c.args.files.now c.in-Err.ensures.plan c.refuse.ensures;
  told = λ t. t;
  cause = rw (refusal_sound c.in-Err.refusal c.refuse.result c.refuse.ensures) (counts_still _);
}

pub returns-in-Ok-clause-effect : goal.returns-in-Ok-clause-effect
returns-in-Ok-clause-effect g c =
    runs_planned g.F.Files (database_plan (meaning_of c.args.command) c.args.state.now) c.in-Ok.call c.args.files.now _ _ c.in-Ok.ensures.plan c.call_files.ensures.effect
