use Rattle.std.proofs.Common.{[], ◌∷◌}
use Rattle.std.proofs.lemmas.Result.{on_err_weaker, on_ok_weaker}
use Rattle.mm_session.specs.Session.{shown}
use Rattle.mm_session.proofs.HearingLemmas.{hears_both}
use Rattle.mm_session.proofs.OutputLemmas.{on_err, says_less, says_less_of_more, says_less_after}
use Rattle.mm_session.proofs.output.Output.echo.Goals as goal

pub returns-in_err-say-clause-err : goal.returns-in_err-say-clause-err
returns-in_err-say-clause-err g c =
    on_err _ c.from_residual.result
    (says_less_of_more g.K.Sink.tells g.K.Sink.held _ c.args.self.now.screen.now c.say.new.self.screen.now _ _ (shown c.args.line.now) (10 ∷ [])
    (says_less g.K.Sink.tells g.K.Sink.held _ c.args.self.now.screen.now c.say.new.self.screen.now _ _ (shown c.args.line.now) c.in_err-say.field-0.0.taken
    (rw c.shown.ensures at c.in_err-say.ensures.short) (rw c.shown.ensures at c.in_err-say.ensures.err) (rw c.shown.ensures at c.in_err-say.ensures.part)))

pub returns-clause-err : goal.returns-clause-err
returns-clause-err g c =
    on_err_weaker c.end_line.result
    (λ less. says_less_after g.K.Sink.tells g.K.Sink.held _ c.args.self.now.screen.now c.say.new.self.screen.now c.end_line.new.self.screen.now _ _ _ (shown c.args.line.now) (10 ∷ []) (rw c.shown.ensures at c.in_ok-say.ensures.ok) (rw c.shown.ensures at c.in_ok-say.ensures.heard) less)
    c.end_line.ensures.err

pub returns-clause-heard : goal.returns-clause-heard
returns-clause-heard g c =
    on_ok_weaker c.end_line.result (λ heard. hears_both _ _ _ _ (shown c.args.line.now) (10 ∷ []) (rw c.shown.ensures at c.in_ok-say.ensures.heard) heard) c.end_line.ensures.heard
