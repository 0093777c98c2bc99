use Rattle.mm_improve.proofs.FindsProofs.{finds_proofs}
use Rattle.mm_improve.proofs.laws.found_proofs_are_proofs.Goals as goal

pub returns : goal.returns
returns c = finds_proofs c.args.bytes.now
