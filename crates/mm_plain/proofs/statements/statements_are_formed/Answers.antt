use Rattle.mm_plain.proofs.Forms.{formed, counted}
use Rattle.mm_plain.proofs.statements.statements_are_formed.Goals as goal

pub returns-clause-formed : goal.returns-clause-formed
returns-clause-formed c = formed c.args.bytes.now

pub returns-clause-counted : goal.returns-clause-counted
returns-clause-counted c = counted c.args.bytes.now
