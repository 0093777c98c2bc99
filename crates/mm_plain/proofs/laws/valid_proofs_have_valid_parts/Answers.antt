use Rattle.mm_plain.proofs.Grafts.{valid-part, valid-cleared, valid-grafted, valid-raised}
use Rattle.mm_plain.proofs.laws.valid_proofs_have_valid_parts.Goals as goal

pub returns-clause-part : goal.returns-clause-part
returns-clause-part c = λ at k goal p v h g. valid-part c.args.bytes.now at goal p k v h g

pub returns-clause-cleared : goal.returns-clause-cleared
returns-clause-cleared c = λ at k goal p v h g. valid-cleared c.args.bytes.now at goal p k v h g

pub returns-clause-grafted : goal.returns-clause-grafted
returns-clause-grafted c = λ at k goal p part v h g w below few low. valid-grafted c.args.bytes.now at goal p part k v h g w below few low

pub returns-clause-raised : goal.returns-clause-raised
returns-clause-raised c = λ at n goal p v room. valid-raised c.args.bytes.now at goal p n v room
