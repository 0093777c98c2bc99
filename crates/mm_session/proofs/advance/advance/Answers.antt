use Rattle.std.proofs.Common.{rules, refl, sym}
use Rattle.mm_session.proofs.CourseLemmas.{or_true}
use Rattle.mm_session.proofs.SessionLemmas.{runs_on, line_runs}
use Rattle.mm_session.proofs.advance.advance.Goals as goal

pub returns-then-is_full-clause-goes : goal.returns-then-is_full-clause-goes
returns-then-is_full-clause-goes g c = λ whole commands maps begun is_line follows at open_still. (
  runs_on g.F.Files commands maps begun c.args.run.now c.args.files.now whole _ _ _ c.step.new.files _ _ follows at open_still
      c.step.ensures.told (line_runs g.F.Files c.args.run.now.state c.args.line.now whole c.args.files.now _ _ c.step.new.files is_line c.in-Starved.ensures.effect) c.in-Starved.ensures.cause (sym (or_true c.args.run.now.refused)) refl refl,
  search rules,
)

pub returns-then-is_full-2-clause-goes : goal.returns-then-is_full-2-clause-goes
returns-then-is_full-2-clause-goes g c = λ whole commands maps begun is_line follows at open_still. (
  runs_on g.F.Files commands maps begun c.args.run.now c.args.files.now whole _ _ _ c.step.new.files _ _ follows at open_still
      c.step.ensures.told (line_runs g.F.Files c.args.run.now.state c.args.line.now whole c.args.files.now _ _ c.step.new.files is_line c.in-Faulted.ensures.effect) c.in-Faulted.ensures.cause (sym (or_true c.args.run.now.refused)) refl refl,
  search rules,
)

pub returns-else-is_full-clause-goes : goal.returns-else-is_full-clause-goes
returns-else-is_full-clause-goes g c = λ whole commands maps begun is_line follows at open_still.
    runs_on g.F.Files commands maps begun c.args.run.now c.args.files.now whole _ _ _ c.step.new.files _ _ follows at open_still
    c.step.ensures.told (line_runs g.F.Files c.args.run.now.state c.args.line.now whole c.args.files.now _ _ c.step.new.files is_line c.in-Starved.ensures.effect) c.in-Starved.ensures.cause (sym (or_true c.args.run.now.refused)) c.push.ensures.items refl

pub returns-else-is_full-2-clause-goes : goal.returns-else-is_full-2-clause-goes
returns-else-is_full-2-clause-goes g c = λ whole commands maps begun is_line follows at open_still.
    runs_on g.F.Files commands maps begun c.args.run.now c.args.files.now whole _ _ _ c.step.new.files _ _ follows at open_still
    c.step.ensures.told (line_runs g.F.Files c.args.run.now.state c.args.line.now whole c.args.files.now _ _ c.step.new.files is_line c.in-Faulted.ensures.effect) c.in-Faulted.ensures.cause (sym (or_true c.args.run.now.refused)) refl c.push-in-Faulted.ensures.items

pub returns-in-Done-clause-goes : goal.returns-in-Done-clause-goes
returns-in-Done-clause-goes g c = λ whole commands maps begun is_line follows at open_still.
    runs_on g.F.Files commands maps begun c.args.run.now c.args.files.now whole _ _ _ c.step.new.files _ _ follows at open_still
    c.step.ensures.told (line_runs g.F.Files c.args.run.now.state c.args.line.now whole c.args.files.now _ _ c.step.new.files is_line c.in-Done.ensures.effect) c.in-Done.ensures.cause refl refl refl
