use Rattle.mm_command.specs.Meanings.{meaning_of}
use Rattle.mm_proof_commands.specs.Commands.{proof_answer}
use Rattle.mm_step.proofs.ReplyLemmas.{answer_told, refusal_told}
use Rattle.mm_step.proofs.line.tell_answer.Goals as goal

pub returns-in-Err : goal.returns-in-Err
returns-in-Err g c = refusal_told (proof_answer (meaning_of c.args.command) c.args.state.now) c.in-Err.refusal c.refuse.result c.in-Err.ensures c.refuse.ensures

pub returns-in-Ok : goal.returns-in-Ok
returns-in-Ok g c = answer_told (proof_answer (meaning_of c.args.command) c.args.state.now) c.in-Ok.done c.tell.result c.in-Ok.ensures c.tell.ensures
