use Rattle.mm_session.proofs.HearingLemmas.{hears_then}
use Rattle.mm_session.proofs.OutputLemmas.{on_err, says_less_past}
use Rattle.mm_session.proofs.output.Output.reply.Goals as goal

pub returns-in_err-text-clause-err : goal.returns-in_err-text-clause-err
returns-in_err-text-clause-err g c =
    on_err _ c.from_residual.result
    (says_less_past g.K.Sink.tells g.K.Sink.held _ _ _ _ _ _ _ _ c.close_log.ensures.heard (rw c.close_log.ensures.screen at c.in_err-text.ensures.err))

pub returns-clause-heard : goal.returns-clause-heard
returns-clause-heard g c = hears_then _ _ _ _ _ _ c.close_log.ensures.heard (hears_then _ _ _ _ _ _ c.in_ok-text.ensures.heard c.open_log.ensures.heard)
