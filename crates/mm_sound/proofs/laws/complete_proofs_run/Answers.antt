use Rattle.mm_sound.proofs.Runs.{proof_runs, theorem_runs}
use Rattle.mm_sound.proofs.laws.complete_proofs_run.Goals as goal

pub returns-clause-of_theorem : goal.returns-clause-of_theorem
returns-clause-of_theorem c = theorem_runs c.args.bytes.now

pub returns-clause-of_goal : goal.returns-clause-of_goal
returns-clause-of_goal c = λ at goal groups p v d a. proof_runs c.args.bytes.now at goal p groups v d a
