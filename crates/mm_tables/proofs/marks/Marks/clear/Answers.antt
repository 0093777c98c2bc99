use Rattle.mm_tables.proofs.Marking.{next_turn}
use Rattle.mm_tables.proofs.marks.Marks.clear.Goals as goal

pub returns-else-self : goal.returns-else-self
returns-else-self c = λ n. next_turn c.self.inside.stamps.items c.self.inside.turn n c.self.invariant.1
