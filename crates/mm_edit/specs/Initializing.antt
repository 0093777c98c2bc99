-- INITIALIZE: the known steps of a part forget what stands for the variables of what they name.
use Rattle.std.specs.Prelude.{ℕ, ◌==◌, not, List, [], ◌∷◌, Result, Ok}
use Rattle.mm_base.specs.Refusals.{unless}
use Rattle.mm_plain.specs.Drawing.{draws_of, with_fresh_in}
use Rattle.mm_plain.specs.Shape.{Proof, size_of, step_at}
use Rattle.mm_edit.specs.Steps.{has_step, is_unknown, is_spent}
use Rattle.mm_edit.specs.declared.edit_fault.EditFault.{EditFault}
use Rattle.mm_edit.specs.declared.edit_fault.EditFault.TheVariants.{NoSuchStep, StepUnknown, NothingChanged, WorkSpent}

-- The proof in which the known steps of the part at a step have fresh work variables, drawn along its steps. The targets
-- of their children follow; the target of the step stays.
unfoldable pub initialized : List ℕ → Proof → ℕ → Result Proof EditFault
initialized bytes p k =
    unless (
    (not (has_step p.plain k), NoSuchStep)
    ∷ (is_unknown p.plain k, StepUnknown)
    ∷ (draws_of bytes (step_at p.plain k) == 0, NothingChanged)
    ∷ (is_spent p (draws_of bytes (step_at p.plain k)), WorkSpent)
    ∷ [])
    (Ok (with_fresh_in bytes p k))

-- ## The whole proof

-- the same of a part that is there, whether its step is known or not
abbrev pub part_initialized : List ℕ → Proof → ℕ → Result Proof EditFault
part_initialized bytes p k =
    unless (
    (draws_of bytes (step_at p.plain k) == 0, NothingChanged)
    ∷ (is_spent p (draws_of bytes (step_at p.plain k)), WorkSpent)
    ∷ [])
    (Ok (with_fresh_in bytes p k))

-- the proof in which all known steps have fresh work variables
unfoldable pub all_initialized : List ℕ → Proof → Result Proof EditFault
all_initialized bytes p = part_initialized bytes p (size_of p.plain)

-- and of a part that needs some
abbrev pub drawn_anew : List ℕ → Proof → ℕ → Result Proof EditFault
drawn_anew bytes p k = unless ((is_spent p (draws_of bytes (step_at p.plain k)), WorkSpent) ∷ []) (Ok (with_fresh_in bytes p k))
