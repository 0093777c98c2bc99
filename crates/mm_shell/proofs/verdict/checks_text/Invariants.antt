use Rattle.std.proofs.Common.{◌≡◌, take}
use Rattle.std.specs.List.{flat_map}
use Rattle.mm_shell.specs.Verdicts.{check_line}
use Rattle.mm_shell.proofs.verdict.checks_text.Given as goal

abbrev pub invariant-loop-check : goal.invariant-loop-check
invariant-loop-check l = l.text.items ≡ flat_map (check_line l.database) (take l.check-index l.checks)
