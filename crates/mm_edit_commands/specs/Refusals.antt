-- Why edits are refused.
use Rattle.std.specs.Prelude.{ℕ, List, [], Option, None, Some}
use Rattle.mm_edit.specs.declared.edit_fault.EditFault.{EditFault}
use Rattle.mm_edit.specs.declared.edit_fault.EditFault.TheVariants as fault
use Rattle.mm_subst.specs.Substitutions.{Pairs}
use Rattle.mm_unify.specs.declared.listing.Listing.{Listing}
use Rattle.mm_shell.specs.Choices.{choices_text}
use Rattle.mm_shell.specs.declared.refusal.Refusal.{Refusal}
use Rattle.mm_shell.specs.declared.refusal.Refusal.TheVariants.{WrongWord, TooManySteps, TooDeep, NoStep, StepKnown, StepUnknown, NotEarlier, NotActive, NoUnifier, TooLong, TrialsSpent, LengthSpent, SeveralUnifiers, NotPending, NoChoice, OccursInValue, NothingChanged, HasWork, OutOfMemory, WorkSpent}

-- C3, for the word with this number
abbrev pub wrong_word : ℕ → Refusal
wrong_word n = WrongWord (record { number = 3; word = n })

-- The refusal of an edit that was given a label, and the number of a step or of a work variable; these are [] and 0 where it
-- was given none. No choices are told.
abbrev pub edit_refusal : List ℕ → ℕ → EditFault → Refusal
edit_refusal label k fault.NotEarlier = NotEarlier label
edit_refusal label k fault.HypothesisNotActive = NotActive label
edit_refusal label k fault.NoSuchStep = NoStep
edit_refusal label k fault.StepKnown = StepKnown k
edit_refusal label k fault.StepUnknown = StepUnknown k
edit_refusal label k fault.HasWork = HasWork k
edit_refusal label k fault.NotPending = NotPending k
edit_refusal label k fault.OccursInValue = OccursInValue k
edit_refusal label k fault.NothingChanged = NothingChanged
edit_refusal label k fault.TooManySteps = TooManySteps
edit_refusal label k fault.TooDeep = TooDeep
edit_refusal label k fault.WorkSpent = WorkSpent
edit_refusal label k fault.NoUnifier = NoUnifier k
edit_refusal label k fault.TrialsSpent = TrialsSpent []
edit_refusal label k fault.LengthSpent = LengthSpent []
edit_refusal label k (fault.Ambiguous n) = SeveralUnifiers [] k n
edit_refusal label k (fault.NoSuchChoice n) = NoChoice k n
edit_refusal label k (fault.TooLong step) = TooLong
edit_refusal label k fault.Memory = OutOfMemory

-- the unifiers of a listing, where there is one
abbrev pub found_in : Option Listing → List Pairs
found_in None = []
found_in (Some t) = t.found.items

-- The refusal to unify a step, for which these unifiers were found: they are told where the search did not end, and where
-- they are several.
abbrev pub unify_refusal : List ℕ → ℕ → List Pairs → EditFault → Refusal
unify_refusal bytes k found fault.TrialsSpent = TrialsSpent (choices_text bytes found)
unify_refusal bytes k found fault.LengthSpent = LengthSpent (choices_text bytes found)
unify_refusal bytes k found (fault.Ambiguous n) = SeveralUnifiers (choices_text bytes found) k n
unify_refusal bytes k found f = edit_refusal [] k f
