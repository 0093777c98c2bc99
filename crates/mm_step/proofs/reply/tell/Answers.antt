use Rattle.std.proofs.Common.{refl, ap, is_ok}
use Rattle.mm_step.proofs.ReplyLemmas.{told_starved}
use Rattle.mm_step.proofs.reply.tell.Goals as goal

pub returns-in-Err : goal.returns-in-Err
returns-in-Err c = λ s. (refl, told_starved c.args.done (is_ok c.text_told.result) c.text_told.ensures.free (ap is_ok c.in-Err.is))
