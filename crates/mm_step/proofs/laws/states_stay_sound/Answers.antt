use Rattle.mm_step.proofs.LawLemmas.{stays_sound}
use Rattle.mm_step.proofs.laws.states_stay_sound.Goals as goal

pub returns : goal.returns
returns c = stays_sound
