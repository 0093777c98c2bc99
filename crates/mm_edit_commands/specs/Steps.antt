-- Which step a word of a command names.
use Rattle.std.specs.Prelude.{ℕ, Option, Some, None, is_none, nat_le, if◌then◌else◌}
use Rattle.mm_plain.specs.declared.plain.Plain.{Plain}
use Rattle.mm_plain.specs.Numbers.{first_from, labels_in, last_unknown_of}
use Rattle.mm_plain.specs.Shape.{size_of}
use Rattle.mm_command.specs.declared.command.StepWord.{StepWord}
use Rattle.mm_command.specs.declared.command.StepWord.TheVariants.{Number, First, Last}

-- the number of no step
abbrev pub no_step : ℕ
no_step = 0

abbrev pub or_no_step : Option ℕ → ℕ
or_no_step (Some k) = k
or_no_step None = no_step

-- The number of the step that a word names, if there is one: FIRST and LAST name the first and the last unknown step.
unfoldable pub step_number : Plain → StepWord → ℕ
step_number x (Number n) = if nat_le n (size_of x) then n else no_step
step_number x First = or_no_step (first_from is_none 1 (labels_in x))
step_number x Last = or_no_step (last_unknown_of (labels_in x))
