use Rattle.std.proofs.Common.{◌≡◌, take}
use Rattle.mm_database_commands.specs.Commands.{checked}
use Rattle.mm_database_commands.proofs.verify.check_all.Given as goal

abbrev pub invariant-loop-id : goal.invariant-loop-id
invariant-loop-id l = l.checks ≡ checked l.database (take l.id-index l.theorems)
