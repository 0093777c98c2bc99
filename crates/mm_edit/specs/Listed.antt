-- The unifiers of a step under the settings, and the one that an edit applies.
use Rattle.std.specs.Prelude.{ℕ, ◌-◌, ◌==◌, Bool, true, false, ◌&&◌, List, [], ◌∷◌, length, slice_get, Option, None, Some, Result, Ok, Err}
use Rattle.mm_base.specs.Refusals.{unless, found_or}
use Rattle.mm_subst.specs.declared.symbol.WSym.{WSym}
use Rattle.mm_subst.specs.Substitutions.{Pairs}
use Rattle.mm_unify.specs.declared.listing.Ended.{Ended}
use Rattle.mm_unify.specs.declared.listing.Ended.TheVariants.{Whole, Trials, Length}
use Rattle.mm_unify.specs.declared.listing.Settings.{Settings}
use Rattle.mm_unify.specs.Forbidden.{forbidden}
use Rattle.mm_unify.specs.Listings.{answer}
use Rattle.mm_unify.specs.Search.{Answer}
use Rattle.mm_plain.specs.declared.plain.Plain.{Plain}
use Rattle.mm_plain.specs.Shape.{target_of}
use Rattle.mm_plain.specs.Sources.{source_of}
use Rattle.mm_edit.specs.declared.edit_fault.EditFault.{EditFault}
use Rattle.mm_edit.specs.declared.edit_fault.EditFault.TheVariants.{NoUnifier, TrialsSpent, LengthSpent, Ambiguous, NoSuchChoice}

-- the unifiers of two strings, listed within the trials
abbrev pub listed : List ℕ → Settings → List WSym → List WSym → Answer
listed bytes set a b = answer (forbidden bytes set.rule) (Some set.trials) a b

-- the unifiers of a string with the source of a step; of an unknown step, with the empty string
abbrev pub listed_with : List ℕ → Settings → List WSym → Option (List WSym) → Answer
listed_with bytes set a None = listed bytes set a []
listed_with bytes set a (Some b) = listed bytes set a b

-- of a known step: its target on the left, and its source on the right
abbrev pub listed_at : List ℕ → Settings → Plain → Answer
listed_at bytes set y = listed_with bytes set (target_of y) (source_of bytes y)

abbrev pub is_whole : Ended → Bool
is_whole Whole = true
is_whole Trials = false
is_whole Length = false

-- whether there surely is no unifier
abbrev pub has_none : Answer → Bool
has_none l = is_whole l.ended && length l.found == 0

-- the unifier of a search that ended in a way and found these, or why it is not the only one
abbrev pub only_among : Ended → List Pairs → Result Pairs EditFault
only_among Trials found = Err TrialsSpent
only_among Length found = Err LengthSpent
only_among Whole [] = Err NoUnifier
only_among Whole (u ∷ []) = Ok u
only_among Whole (u ∷ v ∷ found) = Err (Ambiguous (length (u ∷ v ∷ found)))

-- the one unifier of a whole listing, or why there is none such
abbrev pub only_unifier : Answer → Result Pairs EditFault
only_unifier l = only_among l.ended l.found

-- the unifier with a number, counted from 1; or the only one, where no number is given
abbrev pub chosen : Option ℕ → Answer → Result Pairs EditFault
chosen None l = only_unifier l
chosen (Some n) l =
    unless ((has_none l, NoUnifier) ∷ [])
    (found_or (slice_get l.found (n - 1)) (NoSuchChoice (length l.found)))
