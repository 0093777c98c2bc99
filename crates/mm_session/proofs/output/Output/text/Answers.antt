use Rattle.std.proofs.Common.{◌∙◌, sym, subst, List, ℕ, ◌++◌}
use Rattle.mm_base.specs.Sink.{Gains}
use Rattle.mm_base.proofs.SinkLemmas.{gains_then}
use Rattle.mm_session.proofs.HearingLemmas.{hears_both, hears_is}
use Rattle.mm_session.proofs.OutputLemmas.{on_err, says_less, says_less_is, says_less_of_more, says_less_after}
use Rattle.mm_session.proofs.output.Output.text.Goals as goal

pub returns-in_err-say-clause-err : goal.returns-in_err-say-clause-err
returns-in_err-say-clause-err g c =
    let p = c.pieces.result in
    on_err _ c.from_residual.result
    (says_less_is g.K.Sink.tells g.K.Sink.held _ _ _ _ _ _ _ _ (sym (sym c.into_text-text.ensures ∙ c.pieces.ensures))
    (says_less_of_more g.K.Sink.tells g.K.Sink.held _ _ _ _ _ p.0.now (p.1.now ++ p.2.now)
    (says_less g.K.Sink.tells g.K.Sink.held _ _ _ _ _ p.0.now c.in_err-say.field-0.0.taken c.in_err-say.ensures.short c.in_err-say.ensures.err c.in_err-say.ensures.part)))

pub returns-in_err-say-2-clause-err : goal.returns-in_err-say-2-clause-err
returns-in_err-say-2-clause-err g c =
    let p = c.pieces.result in
    on_err _ c.from_residual-in_err-say-2.result
    (says_less_is g.K.Sink.tells g.K.Sink.held _ _ _ _ _ _ _ _ (sym (sym c.into_text-text.ensures ∙ c.pieces.ensures))
    (says_less_after g.K.Sink.tells g.K.Sink.held _ _ _ _ _ _ _ p.0.now (p.1.now ++ p.2.now) c.in_ok-say.ensures.ok c.in_ok-say.ensures.heard
    (says_less_of_more g.K.Sink.tells g.K.Sink.held _ _ _ _ _ p.1.now p.2.now
    (says_less g.K.Sink.tells g.K.Sink.held _ _ _ _ _ p.1.now c.in_err-say-2.field-0.0.taken c.in_err-say-2.ensures.short c.in_err-say-2.ensures.err c.in_err-say-2.ensures.part))))

pub returns-in_err-say-3-clause-err : goal.returns-in_err-say-3-clause-err
returns-in_err-say-3-clause-err g c =
    let p = c.pieces.result in
    on_err _ c.from_residual-in_err-say-3.result
    (says_less_is g.K.Sink.tells g.K.Sink.held _ _ _ _ _ _ _ _ (sym (sym c.into_text-text.ensures ∙ c.pieces.ensures))
    (says_less_after g.K.Sink.tells g.K.Sink.held _ _ _ _ _ _ _ p.0.now (p.1.now ++ p.2.now) c.in_ok-say.ensures.ok c.in_ok-say.ensures.heard
    (says_less_after g.K.Sink.tells g.K.Sink.held _ _ _ _ _ _ _ p.1.now p.2.now c.in_ok-say-2.ensures.ok c.in_ok-say-2.ensures.heard
    (says_less g.K.Sink.tells g.K.Sink.held _ _ _ _ _ p.2.now c.in_err-say-3.field-0.0.taken c.in_err-say-3.ensures.short c.in_err-say-3.ensures.err c.in_err-say-3.ensures.part))))

pub returns-clause-ok : goal.returns-clause-ok
returns-clause-ok g c =
    let p = c.pieces.result in
    subst (λ (x : List ℕ). Gains g.K.Sink.tells g.K.Sink.held c.args.self.now.screen.now c.say-3.new.self.screen.now x) (sym (sym c.into_text-text.ensures ∙ c.pieces.ensures))
    (gains_then g.K.Sink.tells g.K.Sink.held _ _ _ p.0.now (p.1.now ++ p.2.now) c.in_ok-say.ensures.ok
    (gains_then g.K.Sink.tells g.K.Sink.held _ _ _ p.1.now p.2.now c.in_ok-say-2.ensures.ok c.in_ok-say-3.ensures.ok))

pub returns-clause-heard : goal.returns-clause-heard
returns-clause-heard g c =
    let p = c.pieces.result in
    hears_is _ _ _ _ _ (sym (sym c.into_text-text.ensures ∙ c.pieces.ensures))
    (hears_both _ _ _ _ p.0.now (p.1.now ++ p.2.now) c.in_ok-say.ensures.heard (hears_both _ _ _ _ p.1.now p.2.now c.in_ok-say-2.ensures.heard c.in_ok-say-3.ensures.heard))
