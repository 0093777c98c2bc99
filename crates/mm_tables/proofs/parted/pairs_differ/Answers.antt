use Rattle.mm_tables.proofs.Distinct.{differ}
use Rattle.mm_tables.proofs.parted.pairs_differ.Goals as goal

pub returns : goal.returns
returns c = differ c.args.parted.now c.args.variables.now
