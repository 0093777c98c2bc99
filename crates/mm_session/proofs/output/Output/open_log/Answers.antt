use Rattle.mm_session.proofs.HearingLemmas.{hears_none, hears_opening}
use Rattle.mm_session.proofs.output.Output.open_log.Goals as goal

pub returns-then-opens-clause-heard : goal.returns-then-opens-clause-heard
returns-then-opens-clause-heard g c = rw (c.if-opens.true, ← c.log_name.ensures) (hears_opening _ _ _ c.log_name.result.now c.open_all.ensures.opened c.open_all.ensures.split)

pub returns-else-opens-clause-heard : goal.returns-else-opens-clause-heard
returns-else-opens-clause-heard g c = rw c.if-opens.false (hears_none _ _)
