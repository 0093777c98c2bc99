use Rattle.mm_improve.proofs.Agreeing as agreeing
use Rattle.mm_improve.proofs.laws.answers_agree.Goals as goal

pub returns : goal.returns
returns c = agreeing.answers_agree c.args.bytes.now c.mandatory_variables_differ.ensures
