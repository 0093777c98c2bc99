use Rattle.std.proofs.Common.{Ok, refl}
use Rattle.mm_shell.specs.Actions.{Puts}
use Rattle.mm_database_commands.specs.Commands.{writing}
use Rattle.mm_step.proofs.RunLemmas.{runs_starved}
use Rattle.mm_step.proofs.perform.put.Goals as goal

pub returns-in-Err-clause-effect : goal.returns-in-Err-clause-effect
returns-in-Err-clause-effect g c = λ s. runs_starved g.F.Files (Ok (Puts c.args.name c.args.database (writing c.args.report))) s c.args.files.now refl

pub returns-in-Ok-clause-effect : goal.returns-in-Ok-clause-effect
returns-in-Ok-clause-effect g c = c.put_told.ensures.effect c.args.report c.in-Ok.ensures.is
