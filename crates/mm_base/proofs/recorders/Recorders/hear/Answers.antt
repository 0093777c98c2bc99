use Rattle.mm_base.proofs.RecorderLemmas.{no_calls}
use Rattle.mm_base.proofs.recorders.Recorders.hear.Goals as goal

pub returns-then-self-clause-split : goal.returns-then-self-clause-split
returns-then-self-clause-split g c = rw c.if-self.true c.call_each.ensures.split

pub returns-else-self-clause-split : goal.returns-else-self-clause-split
returns-else-self-clause-split g c = rw c.if-self.false (no_calls _ _ _ c.args.self.now.live.items c.args.self.now.lost.items)
