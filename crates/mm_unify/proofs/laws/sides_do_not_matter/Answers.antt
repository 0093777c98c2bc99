use Rattle.mm_unify.proofs.Mirror.{roots-mirror}
use Rattle.mm_unify.proofs.laws.sides_do_not_matter.Goals as goal

pub returns : goal.returns
returns c = roots-mirror
