use Rattle.std.proofs.Common.{◌≡◌, filter}
use Rattle.std.specs.List.{range_with_len}
use Rattle.mm_database_commands.specs.Commands.{is_meant}
use Rattle.mm_database_commands.proofs.verify.theorems_matched.Given as goal

abbrev pub invariant-loop-id : goal.invariant-loop-id
invariant-loop-id l = l.theorems.items ≡ filter (is_meant l.database l.pattern) (range_with_len 0 l.id)
