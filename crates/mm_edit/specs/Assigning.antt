-- ASSIGN: an unknown step is made known, over fresh work variables.
use Rattle.std.specs.Prelude.{ℕ, not, List, [], ◌∷◌, length, Result}
use Rattle.mm_base.specs.Refusals.{unless}
use Rattle.mm_subst.specs.Statements.{statement_of}
use Rattle.mm_subst.specs.Substitutions.{applied}
use Rattle.mm_unify.specs.declared.listing.Settings.{Settings}
use Rattle.mm_unify.specs.Search.{Answer}
use Rattle.mm_plain.specs.Drawing.{fresh_for}
use Rattle.mm_plain.specs.Grafts.{raised}
use Rattle.mm_plain.specs.Premises.{may_stand, variables_for}
use Rattle.mm_plain.specs.Shape.{Proof, step_at, target_of}
use Rattle.mm_plain.specs.Valid.{placed_in}
use Rattle.mm_edit.specs.Applying.{applying_only}
use Rattle.mm_edit.specs.Listed.{listed, has_none, only_unifier}
use Rattle.mm_edit.specs.Steps.{has_step, is_unknown, not_standing, is_spent, has_many, is_deep}
use Rattle.mm_edit.specs.declared.edit_fault.EditFault.{EditFault}
use Rattle.mm_edit.specs.declared.edit_fault.EditFault.TheVariants.{NoSuchStep, StepKnown, TooManySteps, TooDeep, WorkSpent, NoUnifier}

-- how many work variables naming a statement draws: one for each mandatory variable
abbrev pub draws : List ℕ → ℕ → ℕ
draws bytes id = length (variables_for bytes id)

-- the proof with an unknown step that names a statement, over fresh work variables
abbrev pub named : List ℕ → Proof → ℕ → ℕ → Proof
named bytes p k id = placed_in bytes (raised (draws bytes id) p) k id (fresh_for bytes p.next id)

-- the unifiers of the step's target with what the statement then says
abbrev pub listed_named : List ℕ → Settings → Proof → ℕ → ℕ → Answer
listed_named bytes set p k id = listed bytes set (target_of (step_at p.plain k)) (applied (fresh_for bytes p.next id) (statement_of bytes id))

-- The proof of the theorem at, once a statement is assigned to a step. The only unifier is applied to the whole tree; where
-- there are several, or the search does not end, the step stays pending.
unfoldable pub assigned : List ℕ → ℕ → Settings → Proof → ℕ → ℕ → Result Proof EditFault
assigned bytes at set p k id =
    unless (
    (not (may_stand bytes at id), not_standing bytes id)
    ∷ (not (has_step p.plain k), NoSuchStep)
    ∷ (not (is_unknown p.plain k), StepKnown)
    ∷ (has_many (named bytes p k id), TooManySteps)
    ∷ (is_deep (named bytes p k id), TooDeep)
    ∷ (is_spent p (draws bytes id), WorkSpent)
    ∷ (has_none (listed_named bytes set p k id), NoUnifier)
    ∷ [])
    (applying_only bytes (only_unifier (listed_named bytes set p k id)) (named bytes p k id))
