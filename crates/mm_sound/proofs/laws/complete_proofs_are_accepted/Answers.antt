use Rattle.mm_sound.proofs.Accepted.{accepted_by, accepted}
use Rattle.mm_sound.proofs.laws.complete_proofs_are_accepted.Goals as goal

pub returns-clause-by_any : goal.returns-clause-by_any
returns-clause-by_any c = accepted_by c.args.bytes.now

pub returns-clause-by_text : goal.returns-clause-by_text
returns-clause-by_text c = accepted c.args.bytes.now
