use Rattle.mm_command.specs.Meanings.{meaning_of}
use Rattle.mm_proof_commands.specs.Commands.{proof_answer}
use Rattle.mm_step.proofs.ReplyLemmas.{answer_changed}
use Rattle.mm_step.proofs.line.run_proof.Goals as goal

pub returns-in-Err : goal.returns-in-Err
returns-in-Err g c = c.in-Err.ensures c.args.state.now

pub returns-in-Ok : goal.returns-in-Ok
returns-in-Ok g c = answer_changed (proof_answer (meaning_of c.args.command) c.args.state.now) c.args.state.now _ _ _ (c.in-Ok.ensures c.args.state.now) c.apply_change.ensures
