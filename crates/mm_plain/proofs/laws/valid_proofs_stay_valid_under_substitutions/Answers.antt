use Rattle.mm_plain.proofs.Bounds.{valid-bound}
use Rattle.mm_plain.proofs.laws.valid_proofs_stay_valid_under_substitutions.Goals as goal

pub returns : goal.returns
returns c = valid-bound c.args.bytes.now
