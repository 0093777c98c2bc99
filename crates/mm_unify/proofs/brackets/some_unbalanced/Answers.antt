use Rattle.std.proofs.Common.{sym}
use Rattle.mm_unify.proofs.Opened.{none_at_end}
use Rattle.mm_unify.proofs.brackets.some_unbalanced.Goals as goal

pub returns-in-None : goal.returns-in-None
returns-in-None c = sym (none_at_end _ _ c.in-None.is)
