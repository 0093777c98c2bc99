use Rattle.mm_step.proofs.LawLemmas.{databases_come_by_reading}
use Rattle.mm_step.proofs.laws.databases_come_by_reading.Goals as goal

pub returns : goal.returns
returns c = databases_come_by_reading
