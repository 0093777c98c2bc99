use Rattle.mm_session.proofs.HeadlineLemmas.{err_gives, ok_gives}
use Rattle.mm_session.proofs.TurnLemmas.{turn_cut, turn_failed, turn_spent, turn_ends, turn_answers}
use Rattle.mm_session.proofs.turn.take_turn.Goals as goal

pub returns-then-is_err-clause-turns : goal.returns-then-is_err-clause-turns
returns-then-is_err-clause-turns g c = λ words begun was opened from st.
    turn_cut g.F.Files g.S.Source g.K.Sink _ words begun was opened from c.args.commands.now c.args.run.now c.args.files.now c.args.input.now c.args.output.now.screen.now _ st c.prompt.new.self.screen.now _
    (err_gives c.prompt.result c.is_err.result c.if-is_err.true c.is_err.ensures.value c.prompt.ensures.err)

pub returns-in-Err-Failed-clause-turns : goal.returns-in-Err-Failed-clause-turns
returns-in-Err-Failed-clause-turns g c = λ words begun was opened from st.
    turn_failed g.F.Files g.S.Source g.K.Sink _ words begun was opened from c.args.commands.now c.args.run.now c.args.files.now c.args.input.now c.args.output.now.screen.now _ st c.next.new.self c.next.new.input c.prompt.new.self.screen.now _
    (ok_gives c.prompt.result c.is_err.result c.if-is_err.false c.is_err.ensures.value c.prompt.ensures.ok)
    (ok_gives c.prompt.result c.is_err.result c.if-is_err.false c.is_err.ensures.value c.prompt.ensures.heard)
    ((rw c.in-Err-Failed.field-0-is at c.in-Err-Failed.ensures.next) words was st.met st.came)

pub returns-in-Err-Spent-clause-turns : goal.returns-in-Err-Spent-clause-turns
returns-in-Err-Spent-clause-turns g c = λ words begun was opened from st.
    turn_spent g.F.Files g.S.Source g.K.Sink _ words begun was opened from c.args.commands.now c.args.run.now c.args.files.now c.args.input.now c.args.output.now.screen.now _ st c.next.new.self c.next.new.input c.prompt.new.self.screen.now _
    (ok_gives c.prompt.result c.is_err.result c.if-is_err.false c.is_err.ensures.value c.prompt.ensures.ok)
    (ok_gives c.prompt.result c.is_err.result c.if-is_err.false c.is_err.ensures.value c.prompt.ensures.heard)
    ((rw c.in-Err-Spent.field-0-is at c.in-Err-Spent.ensures.next) words was st.met st.came)

pub returns-in-Ok-End-clause-turns : goal.returns-in-Ok-End-clause-turns
returns-in-Ok-End-clause-turns g c = λ words begun was opened from st.
    turn_ends g.F.Files g.S.Source g.K.Sink _ words begun was opened from c.args.commands.now c.args.run.now c.args.files.now c.args.input.now c.args.output.now.screen.now _ st c.next.new.self c.next.new.input c.prompt.new.self.screen.now c.finish.new.output.screen.now _ _ c.finish.result
    (ok_gives c.prompt.result c.is_err.result c.if-is_err.false c.is_err.ensures.value c.prompt.ensures.ok)
    (ok_gives c.prompt.result c.is_err.result c.if-is_err.false c.is_err.ensures.value c.prompt.ensures.heard)
    ((rw c.in-Ok-End.field-0-is at c.in-Ok-End.ensures.next) words was st.met st.came) c.finish.ensures.finishes

pub returns-in-Ok-Line-clause-turns : goal.returns-in-Ok-Line-clause-turns
returns-in-Ok-Line-clause-turns g c = λ words begun was opened from st.
    turn_answers g.F.Files g.S.Source g.K.Sink _ words begun was opened from c.args.commands.now c.args.run.now c.args.files.now c.args.input.now c.args.output.now.screen.now _ st c.next.new.self c.next.new.input c.prompt.new.self.screen.now _
    (ok_gives c.prompt.result c.is_err.result c.if-is_err.false c.is_err.ensures.value c.prompt.ensures.ok)
    (ok_gives c.prompt.result c.is_err.result c.if-is_err.false c.is_err.ensures.value c.prompt.ensures.heard)
    (rw c.in-Ok-Line.field-0-is at c.in-Ok-Line.ensures.next) c.answer.new.run c.answer.new.files c.answer.new.output.screen.now _ c.answer.result
    c.line.result.now c.line.ensures (λ commands taken whole p h. c.answer.ensures.answers commands taken begun opened from whole p h)
