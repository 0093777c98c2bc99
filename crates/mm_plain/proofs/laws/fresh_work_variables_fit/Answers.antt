use Rattle.mm_plain.proofs.Fresh.{fits-fresh}
use Rattle.mm_plain.proofs.Drawing.{labels_in-with_fresh, valid-placed_fresh, valid-with_fresh}
use Rattle.mm_plain.proofs.laws.fresh_work_variables_fit.Goals as goal

pub returns-clause-step : goal.returns-clause-step
returns-clause-step c = fits-fresh

pub returns-clause-placed : goal.returns-clause-placed
returns-clause-placed c = λ at k id goal p v h g stands room few low. valid-placed_fresh c.args.bytes.now at goal p k id v h g stands room few low

pub returns-clause-part : goal.returns-clause-part
returns-clause-part c = λ at k goal p v h g room. valid-with_fresh c.args.bytes.now at goal p k v h g room

pub returns-clause-labels : goal.returns-clause-labels
returns-clause-labels c = labels_in-with_fresh c.args.bytes.now
