use Rattle.mm_database_commands.proofs.LoadLemmas.{none_loaded, read_loaded, fault_loaded}
use Rattle.mm_database_commands.proofs.read.load.Goals as goal

pub returns-in_default : goal.returns-in_default
returns-in_default c = λ found h. none_loaded _ found (rw c.in_default.is at h)

pub returns-in-Ok : goal.returns-in-Ok
returns-in-Ok c = λ found h. read_loaded _ found c.in-Some.fetched c.in-Ok.database _ (rw c.in-Some.is at h) c.in-Ok.ensures.sound c.in-Ok.ensures.read c.loading.ensures

pub returns-in-Err : goal.returns-in-Err
returns-in-Err c = λ found h. fault_loaded _ found c.in-Some.fetched c.in-Err.fault _ (rw c.in-Some.is at h) c.in-Err.ensures.fault c.read_refusal.ensures
