use Rattle.mm_plain.proofs.Kept.{valid-placed}
use Rattle.mm_plain.proofs.laws.valid_proofs_stay_valid.Goals as goal

pub returns : goal.returns
returns c = λ at k id goal p sigma v h g. valid-placed c.args.bytes.now at goal p k id sigma v h g
