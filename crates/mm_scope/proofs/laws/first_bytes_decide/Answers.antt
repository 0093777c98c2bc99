use Rattle.mm_scope.proofs.Long.{same_database}
use Rattle.mm_scope.proofs.laws.first_bytes_decide.Goals as goal

pub returns : goal.returns
returns c = same_database c.args.bytes.now
