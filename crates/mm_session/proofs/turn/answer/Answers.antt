use Rattle.std.proofs.Common.{◌≡◌, ◌+◌, ◌∙◌, ℕ, suc, refl, arith}
use Rattle.mm_step.specs.Asked.{asked_of}
use Rattle.mm_step.specs.Effects.{is_refused, text_of}
use Rattle.mm_step.specs.Logs.{log_asked}
use Rattle.mm_step.specs.declared.reply.Reply.TheVariants as reply
use Rattle.mm_session.specs.Turns.{Unechoed, Untold, GivenUp, Exits}
use Rattle.mm_session.proofs.EventLemmas.{marks_at, marks_events}
use Rattle.mm_session.proofs.HearingLemmas.{hears_as, open_now}
use Rattle.mm_session.proofs.HeadlineLemmas.{err_gives, ok_gives, cut_at_echo, cut_at_text, gives_up_starved, gives_up_faulted, reaches, exits}
use Rattle.mm_session.proofs.OutputLemmas.{says_less_behind}
use Rattle.mm_session.proofs.turn.answer.Goals as goal

one_more : (n m : ℕ) → n ≡ m + 1 → n ≡ suc m
one_more n m e = omega (arith, e)

pub returns-then-is_err-clause-answers : goal.returns-then-is_err-clause-answers
returns-then-is_err-clause-answers g c = λ commands taken begun opened from whole p h. (
  Unechoed refl refl,
  record {
    logged = cut_at_echo g.F.Files g.K.Sink _ commands taken begun opened from c.args.run.now c.args.files.now c.args.output.now.screen.now c.echo.new.self.screen.now _ _ c.args.line.now whole p h
        (err_gives c.echo.result c.is_err.result c.if-is_err.true c.is_err.ensures.value c.echo.ensures.err);
    state = λ lt. absurd (omega (arith, lt));
  },
)

pub returns-then-is_err-2-clause-answers : goal.returns-then-is_err-2-clause-answers
returns-then-is_err-2-clause-answers g c = λ commands taken begun opened from whole p h.
    let marks = marks_at c.args.line.now whole (is_refused c.in-Replied.reply) _ _ h.is_line c.in-Replied.ensures.log in (
      Untold refl c.in-Replied.ensures.lines,
      record {
        logged = cut_at_text g.F.Files g.K.Sink _ commands taken begun opened from c.args.run.now c.advance.new.run c.args.files.now c.advance.new.files c.args.output.now.screen.now c.echo.new.self.screen.now c.reply.new.self.screen.now _ _ _ c.args.line.now whole c.in-Replied.reply p h
            (ok_gives c.echo.result c.is_err.result c.if-is_err.false c.is_err.ensures.value c.echo.ensures.ok)
            (ok_gives c.echo.result c.is_err.result c.if-is_err.false c.is_err.ensures.value c.echo.ensures.heard)
            (one_more c.advance.new.run.lines c.args.run.now.lines c.in-Replied.ensures.lines)
            (c.in-Replied.ensures.goes whole commands p.reached.maps begun h.is_line p.reached.follows h.at h.open_still)
            (says_less_behind g.K.Sink.tells g.K.Sink.held _ _ _ _ _ _ _ (text_of c.in-Replied.reply) marks.before
            (err_gives c.reply.result c.is_err-in-Replied.result c.if-is_err-2.true c.is_err-in-Replied.ensures.value c.reply.ensures.err));
        state = λ lt. absurd (omega (arith, lt));
      },
    )

pub returns-in-Starved-clause-answers : goal.returns-in-Starved-clause-answers
returns-in-Starved-clause-answers g c = λ commands taken begun opened from whole p h.
    let goes = c.in-Starved.ensures.goes whole commands p.reached.maps begun h.is_line p.reached.follows h.at h.open_still in (
      GivenUp (omega arith) (omega arith) c.in-Starved.ensures.lines,
      record {
        logged = gives_up_starved g.F.Files g.K.Sink _ commands taken begun opened from c.args.run.now c.advance.new.run _ c.args.files.now c.advance.new.files c.args.output.now.screen.now c.echo.new.self.screen.now _ _ c.args.line.now whole reply.Starved (λ y. cc) p h
            (ok_gives c.echo.result c.is_err.result c.if-is_err.false c.is_err.ensures.value c.echo.ensures.ok)
            (ok_gives c.echo.result c.is_err.result c.if-is_err.false c.is_err.ensures.value c.echo.ensures.heard)
            (one_more c.advance.new.run.lines c.args.run.now.lines c.in-Starved.ensures.lines) goes.0 goes.1;
        state = λ lt. absurd (omega (arith, lt));
      },
    )

pub returns-in-Faulted-clause-answers : goal.returns-in-Faulted-clause-answers
returns-in-Faulted-clause-answers g c = λ commands taken begun opened from whole p h.
    let goes = c.in-Faulted.ensures.goes whole commands p.reached.maps begun h.is_line p.reached.follows h.at h.open_still in (
      GivenUp (omega arith) (omega arith) c.in-Faulted.ensures.lines,
      record {
        logged = gives_up_faulted g.F.Files g.K.Sink _ commands taken begun opened from c.args.run.now c.advance.new.run _ c.args.files.now c.advance.new.files c.args.output.now.screen.now c.echo.new.self.screen.now _ _ c.args.line.now whole reply.Faulted (λ y. cc) p h
            (ok_gives c.echo.result c.is_err.result c.if-is_err.false c.is_err.ensures.value c.echo.ensures.ok)
            (ok_gives c.echo.result c.is_err.result c.if-is_err.false c.is_err.ensures.value c.echo.ensures.heard)
            (one_more c.advance.new.run.lines c.args.run.now.lines c.in-Faulted.ensures.lines) goes.0 goes.1;
        state = λ lt. absurd (omega (arith, lt));
      },
    )

pub returns-then-run-clause-answers : goal.returns-then-run-clause-answers
returns-then-run-clause-answers g c = λ commands taken begun opened from whole p h.
    let marks = marks_at c.args.line.now whole (is_refused c.in-Replied.reply) _ _ h.is_line c.in-Replied.ensures.log in (
      Exits c.end_status.ensures c.if-run.true c.in-Replied.ensures.lines,
      exits g.F.Files g.K.Sink _ commands taken begun opened from c.advance.new.run c.advance.new.files c.reply.new.self.screen.now _ c.end_status.result c.end_status.ensures c.if-run.true
          (reaches g.F.Files g.K.Sink _ commands taken begun opened from c.args.run.now c.advance.new.run c.args.files.now c.advance.new.files c.args.output.now.screen.now c.echo.new.self.screen.now c.reply.new.self.screen.now _ _ _ c.args.line.now whole c.in-Replied.reply p h
          (ok_gives c.echo.result c.is_err.result c.if-is_err.false c.is_err.ensures.value c.echo.ensures.ok)
          (ok_gives c.echo.result c.is_err.result c.if-is_err.false c.is_err.ensures.value c.echo.ensures.heard)
          (one_more c.advance.new.run.lines c.args.run.now.lines c.in-Replied.ensures.lines)
          (c.in-Replied.ensures.goes whole commands p.reached.maps begun h.is_line p.reached.follows h.at h.open_still)
          (ok_gives c.reply.result c.is_err-in-Replied.result c.if-is_err-2.false c.is_err-in-Replied.ensures.value c.reply.ensures.ok)
          (hears_as _ _ _ _ _ (marks_events _ _ _ _ (text_of c.in-Replied.reply) marks)
          (ok_gives c.reply.result c.is_err-in-Replied.result c.if-is_err-2.false c.is_err-in-Replied.ensures.value c.reply.ensures.heard))),
    )

pub returns-else-run-clause-answers : goal.returns-else-run-clause-answers
returns-else-run-clause-answers g c = λ commands taken begun opened from whole p h.
    let marks = marks_at c.args.line.now whole (is_refused c.in-Replied.reply) _ _ h.is_line c.in-Replied.ensures.log in
    record {
      reached = reaches g.F.Files g.K.Sink _ commands taken begun opened from c.args.run.now c.advance.new.run c.args.files.now c.advance.new.files c.args.output.now.screen.now c.echo.new.self.screen.now c.reply.new.self.screen.now _ _ _ c.args.line.now whole c.in-Replied.reply p h
          (ok_gives c.echo.result c.is_err.result c.if-is_err.false c.is_err.ensures.value c.echo.ensures.ok)
          (ok_gives c.echo.result c.is_err.result c.if-is_err.false c.is_err.ensures.value c.echo.ensures.heard)
          (one_more c.advance.new.run.lines c.args.run.now.lines c.in-Replied.ensures.lines)
          (c.in-Replied.ensures.goes whole commands p.reached.maps begun h.is_line p.reached.follows h.at h.open_still)
          (ok_gives c.reply.result c.is_err-in-Replied.result c.if-is_err-2.false c.is_err-in-Replied.ensures.value c.reply.ensures.ok)
          (hears_as _ _ _ _ _ (marks_events _ _ _ _ (text_of c.in-Replied.reply) marks)
          (ok_gives c.reply.result c.is_err-in-Replied.result c.if-is_err-2.false c.is_err-in-Replied.ensures.value c.reply.ensures.heard));
      one_more = c.in-Replied.ensures.lines;
      open_still = c.if-run.false;
    }

pub returns-else-run-clause-open : goal.returns-else-run-clause-open
returns-else-run-clause-open g c = λ e.
    open_now _ _ _ c.args.run.now.state.log_open c.advance.new.run.state.log_open (text_of c.in-Replied.reply) (log_asked (asked_of c.args.line.now))
    (ok_gives c.reply.result c.is_err-in-Replied.result c.if-is_err-2.false c.is_err-in-Replied.ensures.value c.reply.ensures.heard) (c.echo.ensures.begun ∙ c.requires.open)
