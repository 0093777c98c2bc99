use Rattle.std.proofs.Common.{◌≡◌, ◌++◌, take}
use Rattle.std.specs.List.{flat_map}
use Rattle.mm_shell.specs.Choices.{value_line}
use Rattle.mm_shell.proofs.choices.push_choice.Given as goal

abbrev pub invariant-loop-pair : goal.invariant-loop-pair
invariant-loop-pair l = l.into.items ≡ l.initial.into.items ++ flat_map (value_line l.database) (take l.pair-index l.pair-items)
