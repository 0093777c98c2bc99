use Rattle.std.proofs.Common.{◌≡◌, ◌++◌, take}
use Rattle.std.specs.List.{flat_map}
use Rattle.mm_plain.specs.Numbers.{numbers_from}
use Rattle.mm_shell.specs.Steps.{is_shown, step_lines}
use Rattle.mm_shell.proofs.steps.push_steps.Given as goal

-- the lines of the first steps
abbrev pub invariant-loop-before : goal.invariant-loop-before
invariant-loop-before l =
    l.into.items ≡ l.fn.into.items ++ flat_map (step_lines l.proof.0 l.proof.1) (numbers_from (is_shown l.only_unknown) 1 (take l.before l.labels.items))
