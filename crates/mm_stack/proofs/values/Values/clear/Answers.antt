use Rattle.std.proofs.Common.{arith}
use Rattle.mm_stack.proofs.Turns.{none_seated}
use Rattle.mm_stack.proofs.values.Values.clear.Goals as goal

pub returns-in-Some : goal.returns-in-Some
returns-in-Some c = λ s. none_seated c.in-Some.turn c.self.inside.seats.items (λ k d h. omega (arith, c.self.invariant.past k d h, c.in-Some.ensures)) s
