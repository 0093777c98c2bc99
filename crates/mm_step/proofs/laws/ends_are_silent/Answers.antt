use Rattle.mm_step.proofs.LawLemmas.{ends_silently}
use Rattle.mm_step.proofs.laws.ends_are_silent.Goals as goal

pub returns : goal.returns
returns c = ends_silently
