use Rattle.mm_plain.proofs.Instances.{valid_becomes, valid_counted}
use Rattle.mm_plain.proofs.laws.valid_proofs_are_instances.Goals as goal

pub returns-clause-instance : goal.returns-clause-instance
returns-clause-instance c = valid_becomes c.args.bytes.now

pub returns-clause-counted : goal.returns-clause-counted
returns-clause-counted c = valid_counted c.args.bytes.now
