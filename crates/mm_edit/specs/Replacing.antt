-- REPLACE: a known step names another statement, and keeps what fits of the proofs of its old children.
use Rattle.std.specs.Prelude.{ℕ, not, List, [], ◌∷◌, map, Result, Ok, Err}
use Rattle.mm_base.specs.Refusals.{unless, given}
use Rattle.mm_subst.specs.Substitutions.{Pairs}
use Rattle.mm_unify.specs.declared.listing.Settings.{Settings}
use Rattle.mm_unify.specs.Search.{Answer}
use Rattle.mm_plain.specs.Children.{children_of}
use Rattle.mm_plain.specs.declared.plain.Plain.{Plain}
use Rattle.mm_plain.specs.Grafts.{cleared_in}
use Rattle.mm_plain.specs.Premises.{may_stand}
use Rattle.mm_plain.specs.Shape.{Proof, step_at}
use Rattle.mm_tree.specs.Replacing.{number_cleared, number_over, refilled_in, are_long}
use Rattle.mm_edit.specs.Applying.{applying_only, bound_by}
use Rattle.mm_edit.specs.Assigning.{draws, named, listed_named}
use Rattle.mm_edit.specs.Listed.{has_none, only_unifier}
use Rattle.mm_edit.specs.Steps.{has_step, is_unknown, not_standing, is_spent, has_many, is_deep}
use Rattle.mm_edit.specs.declared.edit_fault.EditFault.{EditFault}
use Rattle.mm_edit.specs.declared.edit_fault.EditFault.TheVariants.{NoSuchStep, StepUnknown, TooManySteps, TooDeep, WorkSpent, NoUnifier, TooLong}

-- the last refusals of the proof p, whose step with the number m is the replaced one, with the trees of its old children
abbrev pub refilling : List ℕ → Proof → ℕ → List Plain → Result Proof EditFault
refilling bytes p m olds =
    unless (
    (are_long bytes olds, TooLong m)
    ∷ (has_many (refilled_in p m olds), TooManySteps)
    ∷ (is_deep (refilled_in p m olds), TooDeep)
    ∷ [])
    (Ok (refilled_in p m olds))

-- The proof of the theorem at, once a step is cleared and a statement assigned to it, and its new children have the trees
-- of its old ones. The only unifier is applied to these trees too.
unfoldable pub replaced : List ℕ → ℕ → Settings → Proof → ℕ → ℕ → Result Proof EditFault
replaced bytes at set p k id =
    let q : Proof = cleared_in p k in
    let j : ℕ = number_cleared p.plain k in
    let l : Answer = listed_named bytes set q j id in
    unless (
    (not (may_stand bytes at id), not_standing bytes id)
    ∷ (not (has_step p.plain k), NoSuchStep)
    ∷ (is_unknown p.plain k, StepUnknown)
    ∷ (is_spent p (draws bytes id), WorkSpent)
    ∷ (has_none l, NoUnifier)
    ∷ [])
    (given (applying_only bytes (only_unifier l) (named bytes q j id)) (λ r.
    refilling bytes r (number_over bytes p.plain k id) (map (bound_by (only_unifier l)) (children_of (step_at p.plain k)))))

-- ## A known step

-- the same of a known step, and a statement that may stand
abbrev pub renamed : List ℕ → Settings → Proof → ℕ → ℕ → Result Proof EditFault
renamed bytes set p k id =
    let q : Proof = cleared_in p k in
    let j : ℕ = number_cleared p.plain k in
    let l : Answer = listed_named bytes set q j id in
    unless (
    (is_spent p (draws bytes id), WorkSpent)
    ∷ (has_none l, NoUnifier)
    ∷ [])
    (given (applying_only bytes (only_unifier l) (named bytes q j id)) (λ r.
    refilling bytes r (number_over bytes p.plain k id) (map (bound_by (only_unifier l)) (children_of (step_at p.plain k)))))

-- the only unifier of a step; where there is none such, the substitution that changes nothing
abbrev pub only_or_none : Result Pairs EditFault → Pairs
only_or_none (Ok theta) = theta
only_or_none (Err f) = []
