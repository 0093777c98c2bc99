use Rattle.mm_command.specs.Meanings.{meaning_of}
use Rattle.mm_edit_commands.specs.Edits.{edit_answer}
use Rattle.mm_step.proofs.ReplyLemmas.{edit_refused, edit_told}
use Rattle.mm_step.proofs.line.run_edit.Goals as goal

pub returns-in-Err : goal.returns-in-Err
returns-in-Err g c = edit_refused (edit_answer (meaning_of c.args.command) c.args.state.now) c.in-Err.refusal c.refuse.result c.args.state.now c.edit.new.state c.in-Err.ensures c.refuse.ensures

pub returns-in-Ok : goal.returns-in-Ok
returns-in-Ok g c = edit_told (edit_answer (meaning_of c.args.command) c.args.state.now) c.in-Ok.counts c.counts.result c.args.state.now c.edit.new.state c.in-Ok.ensures c.counts.ensures
