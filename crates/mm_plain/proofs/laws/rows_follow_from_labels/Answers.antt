use Rattle.mm_plain.proofs.Rows.{rows_make_all, rows-with_fresh, fitting-with_fresh, fitting-part, rows-begun, made-begun}
use Rattle.mm_plain.proofs.laws.rows_follow_from_labels.Goals as goal

pub returns-clause-made : goal.returns-clause-made
returns-clause-made c = rows_make_all c.args.bytes.now

pub returns-clause-rows : goal.returns-clause-rows
returns-clause-rows c = rows-with_fresh c.args.bytes.now

pub returns-clause-fresh : goal.returns-clause-fresh
returns-clause-fresh c = fitting-with_fresh c.args.bytes.now

pub returns-clause-part : goal.returns-clause-part
returns-clause-part c = λ at k goal p v h g. fitting-part c.args.bytes.now at goal p k v h g

pub returns-clause-begun : goal.returns-clause-begun
returns-clause-begun c = λ at goal labels p h m. (made-begun c.args.bytes.now at goal labels p h m, rows-begun c.args.bytes.now at goal labels p h m)
