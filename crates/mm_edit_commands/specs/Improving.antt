-- IMPROVE: what it means for the open proof.
use Rattle.std.specs.Prelude.{ℕ, Bool, List, [], Option, None, Some, Result}
use Rattle.mm_plain.specs.Shape.{Proof}
use Rattle.mm_unify.specs.declared.listing.Settings.{Settings}
use Rattle.mm_edit.specs.Improving.{all_improved, improved}
use Rattle.mm_edit.specs.Proving.{proofs_found}
use Rattle.mm_command.specs.declared.command.StepWord.{StepWord}
use Rattle.mm_shell.specs.Answers.{or_refusal}
use Rattle.mm_shell.specs.declared.refusal.Refusal.{Refusal}
use Rattle.mm_edit_commands.specs.Refusals.{edit_refusal}
use Rattle.mm_edit_commands.specs.Steps.{step_number}

-- the depth that is given; else 0
abbrev pub depth_of : Option ℕ → ℕ
depth_of None = 0
depth_of (Some depth) = depth

abbrev pub improve_numbered : Settings → List ℕ → ℕ → Proof → ℕ → Option ℕ → Bool → Result Proof Refusal
improve_numbered set bytes theorem p k depth no_distinct = or_refusal (improved (proofs_found bytes theorem set no_distinct (depth_of depth)) p k) (edit_refusal [] k)

abbrev pub improve_step : Settings → List ℕ → ℕ → Proof → StepWord → Option ℕ → Bool → Result Proof Refusal
improve_step set bytes theorem p step depth no_distinct = improve_numbered set bytes theorem p (step_number p.plain step) depth no_distinct

abbrev pub improve_all : Settings → List ℕ → ℕ → Proof → Option ℕ → Bool → Result Proof Refusal
improve_all set bytes theorem p depth no_distinct = or_refusal (all_improved (proofs_found bytes theorem set no_distinct (depth_of depth)) p) (edit_refusal [] 0)
