-- What a line asks of a session.
use Rattle.std.specs.Prelude.{ℕ, nat_lt, List, length, Option, None, Some, Result, Ok, Err, if◌then◌else◌}
use Rattle.mm_command.specs.declared.fault.LineFault.{LineFault}
use Rattle.mm_command.specs.Grammar.{Said}
use Rattle.mm_command.specs.Heard.{meaning_in}
use Rattle.mm_command.specs.Limits.{most_line}
use Rattle.mm_command.specs.Meanings.{Meaning, Nothing}
use Rattle.mm_command.specs.Table.{line_said}

-- A line is too long, or has a first word that doesn't fit, or spells a command.
pub data Asked : Type 0 where
  TooLong : Asked
  Wrong : LineFault → Asked
  Asks : Meaning → Asked

-- what a line says is some command's
abbrev pub asks : Option Meaning → Asked
asks None = Asks Nothing
asks (Some m) = Asks m

abbrev pub asked_by : Result Said LineFault → Asked
asked_by (Ok said) = asks (meaning_in said)
asked_by (Err fault) = Wrong fault

unfoldable pub asked_of : List ℕ → Asked
asked_of line = if nat_lt most_line (length line) then TooLong else asked_by (line_said line)
