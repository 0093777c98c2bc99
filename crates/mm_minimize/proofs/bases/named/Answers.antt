use Rattle.mm_minimize.proofs.BaseLemmas.{named_more}
use Rattle.mm_minimize.proofs.bases.named.Goals as goal

pub loop-id-preserved : goal.loop-id-preserved
loop-id-preserved c = named_more c.args.db.now c.args.pattern.now c.loop-id.id c.loop-id.marks.items c.push.new.self.items c.is_named.result c.loop-id.invariant c.is_named.ensures c.in_ok-push.ensures.items
