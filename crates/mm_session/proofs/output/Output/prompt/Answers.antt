use Rattle.mm_session.proofs.OutputLemmas.{on_err, says_less}
use Rattle.mm_session.proofs.output.Output.prompt.Goals as goal

pub returns-in_err-say-clause-err : goal.returns-in_err-say-clause-err
returns-in_err-say-clause-err g c =
    on_err _ c.from_residual.result
    (says_less g.K.Sink.tells g.K.Sink.held _ _ _ _ _ _ c.in_err-say.field-0.0.taken (rw c.prompt_of.ensures at c.in_err-say.ensures.short) (rw c.prompt_of.ensures at c.in_err-say.ensures.err) (rw c.prompt_of.ensures at c.in_err-say.ensures.part))

pub returns-clause-heard : goal.returns-clause-heard
returns-clause-heard g c = rw c.prompt_of.ensures at c.in_ok-say.ensures.heard
