use Rattle.std.proofs.Common.{subst}
use Rattle.mm_tree.specs.Keyed.{IsKeyed}
use Rattle.mm_tree.proofs.Readings.{stands-other}
use Rattle.mm_tree.proofs.line.Line.bound.Goals as goal

pub returns-in_default : goal.returns-in_default
returns-in_default c = stands-other c.self.inside.keyed.now c.args.self.now c.args.symbol c.args.from (subst (IsKeyed c.self.inside.keyed.now) c.self.view_is c.self.invariant) c.in_default.not-Work
