use Rattle.mm_database_commands.specs.Commands.{loaded}
use Rattle.mm_step.proofs.RunLemmas.{runs_fetch, fetch_faulted, fetch_starved}
use Rattle.mm_step.proofs.perform.fetch.Goals as goal

pub returns-in-Err-Failed-clause-effect : goal.returns-in-Err-Failed-clause-effect
returns-in-Err-Failed-clause-effect g c = λ s. fetch_faulted g.F.Files c.args.name (loaded c.args.name) s c.args.files.now c.fetch.new.self c.fetch.ensures.kept (rw c.in-Err-Failed.field-0-is at c.in-Err-Failed.ensures.number)

pub returns-in-Err-Memory-clause-effect : goal.returns-in-Err-Memory-clause-effect
returns-in-Err-Memory-clause-effect g c = λ s. fetch_starved g.F.Files c.args.name (loaded c.args.name) s c.args.files.now c.fetch.new.self c.fetch.ensures.kept (rw c.in-Err-Memory.field-0-is at c.in-Err-Memory.ensures.number)

pub returns-in-Ok-clause-effect : goal.returns-in-Ok-clause-effect
returns-in-Ok-clause-effect g c = λ s. runs_fetch g.F.Files c.args.name (loaded c.args.name) s c.args.files.now c.fetch.new.self _ _ _ c.in-Ok.ensures.found.file (rw c.bytes.ensures at c.in-Ok.ensures.found.same)
    (c.tell_found.ensures.meets c.in-Ok.ensures.found.file c.in-Ok.ensures.found.finds s) c.fetch.ensures.kept c.in-Ok.ensures.number c.tell_found.ensures.fine
