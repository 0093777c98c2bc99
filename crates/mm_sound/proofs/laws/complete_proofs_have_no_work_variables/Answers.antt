use Rattle.mm_sound.proofs.NoWork.{proof_plain}
use Rattle.mm_sound.proofs.laws.complete_proofs_have_no_work_variables.Goals as goal

pub returns : goal.returns
returns c = proof_plain c.args.bytes.now
