use Rattle.std.proofs.Common.{arith}
use Rattle.mm_tables.proofs.Changing.{noted_or_not}
use Rattle.mm_tables.proofs.declarations.Declarations.note.Goals as goal

pub invariant_of-self : goal.invariant_of-self
invariant_of-self c =
    noted_or_not c.self.inside.layers c.self.inside.changes c.self.inside.changes c.self.inside.standing.items c.self.inside.heights.items c.self.invariant (omega (arith, c.if-moments.false, c.moments.ensures))
    c.note.result c.note.new.self c.note.ensures.ok c.note.ensures.err
