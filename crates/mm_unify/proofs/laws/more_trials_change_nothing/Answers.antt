use Rattle.mm_unify.proofs.Weight.{more_visits}
use Rattle.mm_unify.proofs.laws.more_trials_change_nothing.Goals as goal

pub returns : goal.returns
returns c = more_visits
