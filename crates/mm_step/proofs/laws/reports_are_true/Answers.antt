use Rattle.mm_step.proofs.LawLemmas.{reports_hold}
use Rattle.mm_step.proofs.laws.reports_are_true.Goals as goal

pub returns : goal.returns
returns c = reports_hold
