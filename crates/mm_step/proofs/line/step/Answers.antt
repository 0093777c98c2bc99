use Rattle.std.proofs.Common.{Err, refl}
use Rattle.mm_shell.specs.declared.refusal.Refusal.TheVariants.{LineTooLong, WrongWord}
use Rattle.mm_step.specs.Asked.{TooLong, Wrong, Asks}
use Rattle.mm_command.specs.Meanings.{meaning_of}
use Rattle.mm_step.proofs.AskedLemmas.{asked_long, asked_wrong, asked_command}
use Rattle.mm_step.proofs.NameLemmas.{has_name}
use Rattle.mm_step.proofs.ReplyLemmas.{counts_still, refused_replies, refusal_sound}
use Rattle.mm_step.proofs.LogLemmas.{log_of_run}
use Rattle.mm_step.proofs.RunLemmas.{runs_apart, runs_line}
use Rattle.mm_step.proofs.line.step.Goals as goal

pub returns-then-line-gt-MOST_LINE : goal.returns-then-line-gt-MOST_LINE
returns-then-line-gt-MOST_LINE g c =
    let effect = runs_line g.F.Files c.args.line.now TooLong c.args.state.now c.args.files.now c.args.files.now _ _ (asked_long c.args.line.now c.if-line-gt-MOST_LINE.true)
    (runs_apart g.F.Files _ (Err LineTooLong) c.args.state.now c.args.files.now _ _ refl (refused_replies LineTooLong c.refuse.result (λ e. cc) c.refuse.ensures c.args.state.now)) in
    record {
      effect = effect;
      told = λ t. t;
      cause = rw (refusal_sound LineTooLong c.refuse.result c.refuse.ensures) (counts_still _);
      log = log_of_run g.F.Files c.args.line.now _ _ _ _ _ effect;
    }

pub returns-in-Err : goal.returns-in-Err
returns-in-Err g c =
    let effect = runs_line g.F.Files c.args.line.now (Wrong c.in-Err.fault) c.args.state.now c.args.files.now c.args.files.now _ _ (asked_wrong c.args.line.now c.in-Err.fault c.if-line-gt-MOST_LINE.false c.in-Err.ensures)
    (runs_apart g.F.Files _ (Err (WrongWord c.in-Err.fault)) c.args.state.now c.args.files.now _ _ refl (refused_replies (WrongWord c.in-Err.fault) c.refuse-in-Err.result (λ e. cc) c.refuse-in-Err.ensures c.args.state.now)) in
    record {
      effect = effect;
      told = λ t. t;
      cause = rw (refusal_sound (WrongWord c.in-Err.fault) c.refuse-in-Err.result c.refuse-in-Err.ensures) (counts_still _);
      log = log_of_run g.F.Files c.args.line.now _ _ _ _ _ effect;
    }

pub returns-in-Ok-clause-effect : goal.returns-in-Ok-clause-effect
returns-in-Ok-clause-effect g c =
    runs_line g.F.Files c.args.line.now (Asks (meaning_of c.in-Ok.command)) c.args.state.now c.args.files.now _ _ _ (asked_command c.args.line.now c.in-Ok.command c.if-line-gt-MOST_LINE.false c.in-Ok.ensures) c.run.ensures.effect

pub returns-in-Ok-clause-log : goal.returns-in-Ok-clause-log
returns-in-Ok-clause-log g c = log_of_run g.F.Files c.args.line.now _ _ _ _ _
    (runs_line g.F.Files c.args.line.now (Asks (meaning_of c.in-Ok.command)) c.args.state.now c.args.files.now _ _ _ (asked_command c.args.line.now c.in-Ok.command c.if-line-gt-MOST_LINE.false c.in-Ok.ensures) c.run.ensures.effect)

pub run-requires-clause-name : goal.run-requires-clause-name
run-requires-clause-name g c = has_name c.args.line.now c.in-Ok.command c.in-Ok.ensures
