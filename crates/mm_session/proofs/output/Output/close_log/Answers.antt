use Rattle.mm_session.proofs.HearingLemmas.{hears_none, hears_closing}
use Rattle.mm_session.proofs.output.Output.close_log.Goals as goal

pub returns-then-closes-clause-heard : goal.returns-then-closes-clause-heard
returns-then-closes-clause-heard g c = rw c.if-closes.true (hears_closing _ _ _ c.close_all.ensures.closed c.close_all.ensures.split)

pub returns-else-closes-clause-heard : goal.returns-else-closes-clause-heard
returns-else-closes-clause-heard g c = rw c.if-closes.false (hears_none _ _)
