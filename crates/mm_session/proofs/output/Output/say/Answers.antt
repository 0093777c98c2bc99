use Rattle.mm_session.proofs.HearingLemmas.{hears_piece}
use Rattle.mm_session.proofs.output.Output.say.Goals as goal

pub returns-in-Ok-clause-heard : goal.returns-in-Ok-clause-heard
returns-in-Ok-clause-heard g c = hears_piece _ _ _ c.args.piece.now c.hear.ensures.same c.hear.ensures.split

pub returns-in-Err-clause-part : goal.returns-in-Err-clause-part
returns-in-Err-clause-part g c = rw c.split_at.ensures.front at (hears_piece _ _ _ _ c.hear-in-Err.ensures.same c.hear-in-Err.ensures.split)
