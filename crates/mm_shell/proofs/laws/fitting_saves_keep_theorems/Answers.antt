use Rattle.mm_shell.proofs.FrameLemmas.{only_saves_change, loads_the_origin, saved_theorems_hold, saves_can_be_made}
use Rattle.mm_shell.proofs.laws.fitting_saves_keep_theorems.Goals as goal

pub returns-clause-change : goal.returns-clause-change
returns-clause-change c = only_saves_change

pub returns-clause-come : goal.returns-clause-come
returns-clause-come c = loads_the_origin

pub returns-clause-saved : goal.returns-clause-saved
returns-clause-saved c = saved_theorems_hold

pub returns-clause-made : goal.returns-clause-made
returns-clause-made c = saves_can_be_made
