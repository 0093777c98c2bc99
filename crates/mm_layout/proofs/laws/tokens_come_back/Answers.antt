use Rattle.mm_layout.proofs.Returned.{tokens_returned}
use Rattle.mm_layout.proofs.laws.tokens_come_back.Goals as goal

pub returns : goal.returns
returns c = tokens_returned
