use Rattle.mm_improve.proofs.Limited as limited
use Rattle.mm_improve.proofs.laws.ranks_are_limited.Goals as goal

pub returns : goal.returns
returns c = limited.ranks_are_limited c.args.bytes.now c.mandatory_variables_differ.ensures
