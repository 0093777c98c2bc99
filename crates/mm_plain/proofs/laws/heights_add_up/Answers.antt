use Rattle.mm_plain.proofs.Parts.{height-part, size-cleared, height-cleared-le, height-grafted}
use Rattle.mm_plain.proofs.laws.heights_add_up.Goals as goal

pub returns-clause-part : goal.returns-clause-part
returns-clause-part c = height-part

pub returns-clause-cleared_size : goal.returns-clause-cleared_size
returns-clause-cleared_size c = size-cleared

pub returns-clause-cleared : goal.returns-clause-cleared
returns-clause-cleared c = height-cleared-le

pub returns-clause-grafted : goal.returns-clause-grafted
returns-clause-grafted c = height-grafted
