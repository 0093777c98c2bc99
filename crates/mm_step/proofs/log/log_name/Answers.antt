use Rattle.std.proofs.Common.{sym, ◌∙◌, ap}
use Rattle.mm_step.specs.Logs.{log_asked}
use Rattle.mm_step.proofs.AskedLemmas.{asked_long, asked_wrong, asked_command}
use Rattle.mm_step.proofs.log.log_name.Goals as goal

pub returns-then-line-gt-MOST_LINE : goal.returns-then-line-gt-MOST_LINE
returns-then-line-gt-MOST_LINE c = sym (ap log_asked (asked_long c.args.line.now c.if-line-gt-MOST_LINE.true))

pub returns-in-Ok : goal.returns-in-Ok
returns-in-Ok c = c.name_in.ensures ∙ sym (ap log_asked (asked_command c.args.line.now c.in-Ok.command c.if-line-gt-MOST_LINE.false c.in-Ok.ensures))

pub returns-in-Err : goal.returns-in-Err
returns-in-Err c = sym (ap log_asked (asked_wrong c.args.line.now c.in-Err.field-0 c.if-line-gt-MOST_LINE.false c.in-Err.ensures))
