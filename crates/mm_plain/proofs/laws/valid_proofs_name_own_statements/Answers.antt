use Rattle.mm_plain.proofs.Owned.{own-valid}
use Rattle.mm_plain.proofs.laws.valid_proofs_name_own_statements.Goals as goal

pub returns : goal.returns
returns c = own-valid
