use Rattle.mm_subst.proofs.Replaced.{applied-then_by}
use Rattle.mm_subst.proofs.laws.twice_is_once.Goals as goal

pub returns : goal.returns
returns c = applied-then_by
