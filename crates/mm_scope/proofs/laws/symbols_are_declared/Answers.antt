use Rattle.mm_scope.proofs.Lawful.{is_lawful}
use Rattle.mm_scope.proofs.laws.symbols_are_declared.Goals as goal

pub returns-clause-active : goal.returns-clause-active
returns-clause-active c = (is_lawful c.args.bytes.now).0

pub returns-clause-numbered : goal.returns-clause-numbered
returns-clause-numbered c = (is_lawful c.args.bytes.now).1
