use Rattle.std.proofs.Common.{sym}
use Rattle.mm_unify.proofs.Opened.{none_so_far}
use Rattle.mm_unify.proofs.brackets.some_forbidden.Goals as goal

pub returns-in-None : goal.returns-in-None
returns-in-None c = sym (none_so_far _ _ c.in-None.is)
