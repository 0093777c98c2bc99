use Rattle.mm_proof.proofs.Lines.{compressed_reads}
use Rattle.mm_proof.proofs.Refolded.{trees_read}
use Rattle.mm_proof.proofs.laws.compressed_proofs_come_back.Goals as goal

pub returns : goal.returns
returns c = record { reads = compressed_reads; folds = λ bytes at t h. trees_read bytes t h.whole }
