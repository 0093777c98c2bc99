use Rattle.mm_session.proofs.RefusedLemmas.{refused_changes_nothing}
use Rattle.mm_session.proofs.law.refused_commands_change_nothing.Goals as goal

pub returns : goal.returns
returns c = refused_changes_nothing
