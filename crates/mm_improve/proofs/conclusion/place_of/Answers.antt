use Rattle.mm_improve.proofs.Placing.{from_none}
use Rattle.mm_improve.proofs.conclusion.place_of.Goals as goal

pub loop-i-init : goal.loop-i-init
loop-i-init c = from_none c.args.keys.now c.args.number
