use Rattle.mm_subst.proofs.Replaced.{applied-keyless}
use Rattle.mm_subst.proofs.laws.without_keys_nothing_changes.Goals as goal

pub returns : goal.returns
returns c = applied-keyless
