use Rattle.mm_sound.proofs.Incomplete.{proof_stops, written_incomplete}
use Rattle.mm_sound.proofs.laws.unknown_steps_leave_a_proof_incomplete.Goals as goal

pub returns-clause-of_run : goal.returns-clause-of_run
returns-clause-of_run c = λ at goal groups p v d a some. proof_stops c.args.bytes.now at goal p groups v d a some

pub returns-clause-of_text : goal.returns-clause-of_text
returns-clause-of_text c = written_incomplete c.args.bytes.now
