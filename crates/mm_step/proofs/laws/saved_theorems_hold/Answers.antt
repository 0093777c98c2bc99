use Rattle.mm_step.proofs.LawLemmas.{only_saves_change, saved_theorems_hold, puts_the_database, saves_can_be_made}
use Rattle.mm_step.proofs.laws.saved_theorems_hold.Goals as goal

pub returns-clause-change : goal.returns-clause-change
returns-clause-change c = only_saves_change

pub returns-clause-saved : goal.returns-clause-saved
returns-clause-saved c = saved_theorems_hold

pub returns-clause-put : goal.returns-clause-put
returns-clause-put c = puts_the_database

pub returns-clause-made : goal.returns-clause-made
returns-clause-made c = saves_can_be_made
