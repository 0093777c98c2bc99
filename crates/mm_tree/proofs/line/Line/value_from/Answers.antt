use Rattle.std.proofs.Common.{arith}
use Rattle.mm_subst.specs.declared.symbol.WSym.TheVariants.{Work}
use Rattle.mm_tree.proofs.Readings.{bound-first, stands-beyond}
use Rattle.mm_tree.proofs.line.Line.value_from.Goals as goal

pub returns-then-place-len : goal.returns-then-place-len
returns-then-place-len c = stands-beyond c.args.self.now (Work c.args.number) c.args.from c.first_with-place.result c.first_with-place.ensures (omega (arith, c.if-place-len.true, c.len.ensures))

pub returns-in-Some : goal.returns-in-Some
returns-in-Some c = bound-first c.args.self.now (Work c.args.number) c.args.from c.first_with-place.result c.symbols.result.now c.first_with-place.ensures (rw c.symbols.ensures c.in-Some.ensures)
