use Rattle.std.proofs.Common.{◌∙◌}
use Rattle.mm_database_commands.specs.Commands.{writing}
use Rattle.mm_step.proofs.RunLemmas.{put_faulted, put_starved, put_done}
use Rattle.mm_step.proofs.perform.put_told.Goals as goal

pub returns-in-Err-Failed-clause-effect : goal.returns-in-Err-Failed-clause-effect
returns-in-Err-Failed-clause-effect g c = λ report e s. put_faulted g.F.Files c.args.name c.args.database (writing report) s c.args.files.now c.replace.new.self (rw c.bytes.ensures at (rw (c.bytes-2.ensures.value ∙ c.database.ensures) at (rw c.in-Err-Failed.field-0-is at c.in-Err-Failed.ensures.put))) (rw c.in-Err-Failed.field-0-is at c.in-Err-Failed.ensures.number)

pub returns-in-Err-Memory-clause-effect : goal.returns-in-Err-Memory-clause-effect
returns-in-Err-Memory-clause-effect g c = λ report e s. put_starved g.F.Files c.args.name c.args.database (writing report) s c.args.files.now c.replace.new.self (rw c.bytes.ensures at (rw (c.bytes-2.ensures.value ∙ c.database.ensures) at (rw c.in-Err-Memory.field-0-is at c.in-Err-Memory.ensures.put))) (rw c.in-Err-Memory.field-0-is at c.in-Err-Memory.ensures.number)

pub returns-clause-effect : goal.returns-clause-effect
returns-clause-effect g c = λ report e s. put_done g.F.Files c.args.name c.args.database (writing report) s c.args.text c.args.files.now c.replace.new.self c.in-Ok.field-0 e (rw c.bytes.ensures at (rw (c.bytes-2.ensures.value ∙ c.database.ensures) at c.in-Ok.ensures.put)) c.in-Ok.ensures.number
