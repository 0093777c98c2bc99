use Rattle.mm_save.proofs.Clashing.{apart_by, no_clash_in}
use Rattle.mm_save.proofs.laws.proofs_without_clash_are_apart.Goals as goal

pub returns-clause-apart : goal.returns-clause-apart
returns-clause-apart c = λ groups x none. apart_by c.args.bytes.now groups x none

pub returns-clause-back : goal.returns-clause-back
returns-clause-back c = λ groups x apart. no_clash_in c.args.bytes.now groups x apart
