use Rattle.mm_proof.proofs.Reread.{normal_reads, normal_folds}
use Rattle.mm_proof.proofs.laws.normal_proofs_come_back.Goals as goal

pub returns : goal.returns
returns c = record { reads = normal_reads; folds = normal_folds }
