-- UNIFY: a pending step's target and source are made the same.
use Rattle.std.specs.Prelude.{ℕ, zero, suc, Bool, true, false, not, List, [], ◌∷◌, is_none, Option, None, Some, Result, Ok, Err, if◌then◌else◌}
use Rattle.mm_base.specs.Refusals.{unless, given}
use Rattle.mm_subst.specs.Substitutions.{Pairs}
use Rattle.mm_unify.specs.declared.listing.Settings.{Settings}
use Rattle.mm_unify.specs.Search.{Answer}
use Rattle.mm_plain.specs.declared.plain.Plain.{Plain}
use Rattle.mm_plain.specs.Shape.{Proof, steps_of, step_at}
use Rattle.mm_plain.specs.Sources.{is_pending}
use Rattle.mm_edit.specs.Applying.{applying}
use Rattle.mm_edit.specs.Counts.{pending_count}
use Rattle.mm_edit.specs.Listed.{listed_at, only_unifier, chosen}
use Rattle.mm_edit.specs.Steps.{has_step, is_unknown}
use Rattle.mm_edit.specs.declared.edit_fault.EditFault.{EditFault}
use Rattle.mm_edit.specs.declared.edit_fault.EditFault.TheVariants.{NoSuchStep, StepUnknown, NotPending, NothingChanged, TrialsSpent, LengthSpent, Ambiguous, NoSuchChoice}

-- ## One step

-- the proof under a unifier of a pending step: the one with a number, or the only one
unfoldable pub step_unified : List ℕ → Settings → Proof → ℕ → Option ℕ → Result Proof EditFault
step_unified bytes set p k choice =
    unless (
    (not (has_step p.plain k), NoSuchStep)
    ∷ (is_unknown p.plain k, StepUnknown)
    ∷ (not (is_pending bytes (step_at p.plain k)), NotPending)
    ∷ [])
    (given (chosen choice (listed_at bytes set (step_at p.plain k))) (λ theta.
    applying bytes theta p))

-- whether a refusal shows the unifiers that were found
abbrev pub shows_listing : EditFault → Bool
shows_listing TrialsSpent = true
shows_listing LengthSpent = true
shows_listing (Ambiguous n) = true
shows_listing (NoSuchChoice n) = true
shows_listing _ = false

-- the listing that a refusal of a step shows
abbrev pub listing_shown : List ℕ → Settings → Plain → EditFault → Option Answer
listing_shown bytes set y f = if shows_listing f then Some (listed_at bytes set y) else None

-- ## All steps

abbrev pub unifier_in : Result Pairs EditFault → Option Pairs
unifier_in (Ok theta) = Some theta
unifier_in (Err f) = None

-- the only unifier of a step, where it is pending and has one
abbrev pub unifier_at : List ℕ → Settings → Plain → Option Pairs
unifier_at bytes set y = if is_pending bytes y then unifier_in (only_unifier (listed_at bytes set y)) else None

abbrev pub or_next : Option Pairs → Option Pairs → Option Pairs
or_next (Some theta) later = Some theta
or_next None later = later

-- that of the first step that has one
abbrev pub first_unifier : List ℕ → Settings → List Plain → Option Pairs
first_unifier bytes set [] = None
first_unifier bytes set (y ∷ ys) = or_next (unifier_at bytes set y) (first_unifier bytes set ys)

-- what follows with a unifier, where there is one; else the proof as it is
abbrev pub going_on : Option Pairs → Proof → (Pairs → Result Proof EditFault) → Result Proof EditFault
going_on None p onward = Ok p
going_on (Some theta) p onward = onward theta

-- at most n unifiers applied one after the other, each that of the first step that then has one
unfoldable pub unified_in : ℕ → List ℕ → Settings → Proof → Result Proof EditFault
unified_in zero bytes set p = Ok p
unified_in (suc n) bytes set p = going_on (first_unifier bytes set (steps_of p.plain)) p (λ theta. given (applying bytes theta p) (unified_in n bytes set))

-- The proof in which no pending step has an only unifier any more. Each one applied leaves fewer steps pending, so there are
-- at most as many as steps are pending.
unfoldable pub all_unified : List ℕ → Settings → Proof → Result Proof EditFault
all_unified bytes set p =
    unless ((is_none (first_unifier bytes set (steps_of p.plain)), NothingChanged) ∷ [])
    (unified_in (pending_count bytes p.plain) bytes set p)
