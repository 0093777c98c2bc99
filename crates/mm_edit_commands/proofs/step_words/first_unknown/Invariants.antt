use Rattle.std.proofs.Common.{◌≡◌, ◌+◌, drop}
use Rattle.std.specs.Option.{is_none}
use Rattle.mm_plain.specs.Numbers.{first_from}
use Rattle.mm_edit_commands.proofs.step_words.first_unknown.Given as goal

abbrev pub invariant-loop-place : goal.invariant-loop-place
invariant-loop-place l = first_from is_none (l.place + 1) (drop l.place l.label-items) ≡ first_from is_none 1 l.label-items
