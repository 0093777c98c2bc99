-- LET: a string for a work variable, or for what a step proves.
use Rattle.std.specs.Prelude.{ℕ, not, List, [], ◌∷◌, Result}
use Rattle.mm_base.specs.Refusals.{unless, given}
use Rattle.mm_subst.specs.declared.symbol.WSym.{WSym}
use Rattle.mm_subst.specs.declared.symbol.WSym.TheVariants.{Work}
use Rattle.mm_unify.specs.declared.listing.Settings.{Settings}
use Rattle.mm_plain.specs.Occurring.{holds, occurs_in}
use Rattle.mm_plain.specs.Shape.{Proof, step_at, target_of}
use Rattle.mm_edit.specs.Applying.{applying}
use Rattle.mm_edit.specs.Listed.{listed, only_unifier}
use Rattle.mm_edit.specs.Steps.{has_step}
use Rattle.mm_edit.specs.declared.edit_fault.EditFault.{EditFault}
use Rattle.mm_edit.specs.declared.edit_fault.EditFault.TheVariants.{NoSuchStep, OccursInValue, NothingChanged}

-- the proof with a string for each occurrence of the work variable with a number
unfoldable pub variable_let : List ℕ → Proof → ℕ → List WSym → Result Proof EditFault
variable_let bytes p n value =
    unless ((holds n value, OccursInValue) ∷ (not (occurs_in n p.plain), NothingChanged) ∷ [])
    (applying bytes ((Work n, value) ∷ []) p)

-- the proof under the only unifier of the target of a step with a text
unfoldable pub step_let : List ℕ → Settings → Proof → ℕ → List WSym → Result Proof EditFault
step_let bytes set p k text =
    unless ((not (has_step p.plain k), NoSuchStep) ∷ [])
    (given (only_unifier (listed bytes set (target_of (step_at p.plain k)) text)) (λ theta.
    applying bytes theta p))
