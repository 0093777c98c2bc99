use Rattle.mm_database_commands.specs.Commands.{loaded}
use Rattle.mm_step.proofs.ReplyLemmas.{refusal_sound, told_sound}
use Rattle.mm_step.proofs.RunLemmas.{found_told, found_refused}
use Rattle.mm_step.proofs.perform.tell_found.Goals as goal

pub returns-in-Ok : goal.returns-in-Ok
returns-in-Ok c = record {
  meets = λ file h s. found_told (loaded c.args.name file) s c.in-Ok.done c.tell.result (c.in-Ok.ensures file h) c.tell.ensures;
  fine = told_sound c.in-Ok.done c.tell.result c.tell.ensures;
}

pub returns-in-Err : goal.returns-in-Err
returns-in-Err c = record {
  meets = λ file h s. found_refused (loaded c.args.name file) s c.in-Err.refusal c.refuse.result (c.in-Err.ensures file h) c.refuse.ensures;
  fine = refusal_sound c.in-Err.refusal c.refuse.result c.refuse.ensures;
}
