use Rattle.mm_step.proofs.LawLemmas.{refused_changes_nothing}
use Rattle.mm_step.proofs.laws.refused_lines_change_nothing.Goals as goal

pub returns : goal.returns
returns c = refused_changes_nothing
