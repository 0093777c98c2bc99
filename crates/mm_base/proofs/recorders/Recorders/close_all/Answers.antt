use Rattle.mm_base.proofs.RecorderLemmas.{no_calls}
use Rattle.mm_base.proofs.recorders.Recorders.close_all.Goals as goal

pub returns-else-self-clause-split : goal.returns-else-self-clause-split
returns-else-self-clause-split g c = no_calls _ _ _ c.args.self.now.live.items c.args.self.now.lost.items
