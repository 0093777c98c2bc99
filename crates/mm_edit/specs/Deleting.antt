-- DELETE: steps are made unknown.
use Rattle.std.specs.Prelude.{ℕ, not, List, [], ◌∷◌, Result, Ok}
use Rattle.std.specs.List.{list_any}
use Rattle.mm_base.specs.Refusals.{unless}
use Rattle.mm_plain.specs.Floats.{bared_in, has_float}
use Rattle.mm_plain.specs.Grafts.{cleared_in}
use Rattle.mm_plain.specs.Shape.{Proof, steps_of}
use Rattle.mm_edit.specs.Steps.{has_step, is_unknown}
use Rattle.mm_edit.specs.declared.edit_fault.EditFault.{EditFault}
use Rattle.mm_edit.specs.declared.edit_fault.EditFault.TheVariants.{NoSuchStep, StepUnknown, NothingChanged}

-- the proof with a known step made unknown
unfoldable pub deleted : Proof → ℕ → Result Proof EditFault
deleted p k =
    unless ((not (has_step p.plain k), NoSuchStep) ∷ (is_unknown p.plain k, StepUnknown) ∷ [])
    (Ok (cleared_in p k))

-- ## Floating hypotheses

-- the proof in which each known child for a `$f` is made unknown
unfoldable pub floats_deleted : List ℕ → Proof → Result Proof EditFault
floats_deleted bytes p =
    unless ((not (list_any (has_float bytes) (steps_of p.plain)), NothingChanged) ∷ [])
    (Ok (bared_in bytes p))
