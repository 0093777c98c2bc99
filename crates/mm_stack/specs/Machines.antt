-- What the machine's parts stand for.
use Rattle.std.specs.Prelude.{◌≡◌, ℕ, List, Option, Result, Ok, Err}
use Rattle.mm_stack.specs.Running.{Progress}
use Rattle.mm_stack.specs.Seats.{value_in}
use Rattle.mm_stack.specs.Substitution.{Binding, value_of}
use Rattle.mm_stack.specs.declared.outcome.Verdict.{Verdict}
use Rattle.mm_stack.specs.declared.machine.Stop.{Stop}
use Rattle.mm_stack.specs.declared.machine.Stop.TheVariants.{Ended, Memory}

-- the table and the stack give each symbol what the substitution does
abbrev pub Means : List (Option ℕ) → List (List ℕ) → List Binding → Type 0
Means values stack sigma = (s : ℕ) → value_in values stack s ≡ value_of sigma s

-- where a run stops, unless memory ran out
abbrev pub Stops : Stop → Result Progress Verdict → Type 0
Stops Memory run = Unit {0}
Stops (Ended o) run = run ≡ Err o

-- the machine stands where a run does, unless memory ran out
abbrev pub Stands : Progress → Result (Unit {0}) Stop → Result Progress Verdict → Type 0
Stands p (Ok _) run = run ≡ Ok p
Stands p (Err stop) run = Stops stop run
