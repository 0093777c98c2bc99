-- What a line asks.
use Rattle.std.proofs.Common.{◌≡◌, ◌<◌, ◌≤◌, ℕ, false, List, Ok, Err, length, refl, ◌∙◌, ap, arith, nat_lt}
use Rattle.std.proofs.lemmas.Bool.{lt-ltb}
use Rattle.std.proofs.lemmas.Bool.Decides.{nat_tests}
use Rattle.mm_command.specs.declared.fault.LineFault.{LineFault}
use Rattle.mm_command.specs.declared.command.Command.{Command}
use Rattle.mm_command.specs.Meanings.{meaning_of}
use Rattle.mm_command.specs.Spelled.{spelled}
use Rattle.mm_command.specs.Table.{line_said}
use Rattle.mm_command.proofs.MeaningLemmas.{meaning_back}
use Rattle.mm_step.specs.Asked.{TooLong, Wrong, Asks, asks, asked_by, asked_of}

pub asked_long : (line : List ℕ) → 65536 < length line → asked_of line ≡ TooLong
unfolding asked_of
asked_long line long = rw (lt-ltb 65536 (length line) long) refl

asked_short : (line : List ℕ) → length line ≤ 65536 → asked_of line ≡ asked_by (line_said line)
unfolding asked_of
asked_short line short = let no : nat_lt 65536 (length line) ≡ false = grind (arith, nat_tests) in rw no refl

pub asked_wrong : (line : List ℕ) (fault : LineFault) → length line ≤ 65536 → line_said line ≡ Err fault → asked_of line ≡ Wrong fault
asked_wrong line fault short says = asked_short line short ∙ ap asked_by says

pub asked_command : (line : List ℕ) (c : Command) → length line ≤ 65536 → line_said line ≡ Ok (spelled c) → asked_of line ≡ Asks (meaning_of c)
asked_command line c short says = asked_short line short ∙ (ap asked_by says ∙ ap asks (meaning_back c))
