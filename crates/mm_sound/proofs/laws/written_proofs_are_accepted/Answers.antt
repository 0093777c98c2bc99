use Rattle.mm_sound.proofs.Accepted.{written_accepts}
use Rattle.mm_sound.proofs.laws.written_proofs_are_accepted.Goals as goal

pub returns : goal.returns
returns c = written_accepts c.args.bytes.now
