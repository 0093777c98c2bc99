use Rattle.std.proofs.Common.{ap, length, arith}
use Rattle.mm_stack.specs.Seats.{value_in}
use Rattle.mm_stack.proofs.Instances.{too_long}
use Rattle.mm_stack.proofs.instance.fill.Goals as goal

pub returns-then-value-len-clause-fits : goal.returns-then-value-len-clause-fits
returns-then-value-len-clause-fits c =
    too_long (value_in c.args.values.now c.args.stack.now.stack) c.args.symbols.now c.loop-symbol.symbol-index (omega arith)
    (omega (arith, ap length c.loop-symbol.invariant.so_far, ap length c.value-value.ensures, c.loop-symbol.out.ok.0))
