use Rattle.mm_step.proofs.LogLemmas.{logs_change}
use Rattle.mm_step.proofs.laws.logs_change_by_their_commands.Goals as goal

pub returns : goal.returns
returns c = logs_change
