use Rattle.std.proofs.Common.{take}
use Rattle.std.specs.List.{All}
use Rattle.mm_plain.specs.Numbers.{IsOwnLabel}
use Rattle.mm_tree.proofs.tests.check_own.Given as goal

abbrev pub invariant-loop-label : goal.invariant-loop-label
invariant-loop-label l = All (IsOwnLabel l.db) (take l.label-index l.labels)
