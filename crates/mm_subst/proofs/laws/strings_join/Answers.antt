use Rattle.mm_subst.proofs.Replaced.{applied-append}
use Rattle.mm_subst.proofs.laws.strings_join.Goals as goal

pub returns : goal.returns
returns c = applied-append
