use Rattle.mm_session.proofs.SavesLemmas.{saved_theorems_hold, written_theorems_hold}
use Rattle.mm_session.proofs.law.saved_theorems_are_accepted.Goals as goal

pub returns-clause-database : goal.returns-clause-database
returns-clause-database c = saved_theorems_hold

pub returns-clause-written : goal.returns-clause-written
returns-clause-written c = written_theorems_hold
