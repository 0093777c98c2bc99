use Rattle.std.proofs.Common.{◌≡◌, ◌+◌, ◌++◌, drop}
use Rattle.std.specs.List.{enumerate_from, flat_map}
use Rattle.mm_shell.specs.Choices.{choice_text}
use Rattle.mm_shell.proofs.choices.choices_of.Given as goal

abbrev pub invariant-loop-place : goal.invariant-loop-place
invariant-loop-place l =
    l.text.items ++ flat_map (λ p. choice_text l.database p.0 p.1) (enumerate_from (l.place + 1) (drop l.place l.told)) ≡ flat_map (λ p. choice_text l.database p.0 p.1) (enumerate_from 1 l.told)
