-- What UNIFY comes to, from what its parts answer.
use Rattle.std.proofs.Common.{zero, suc, ◌≡◌, ◌≢◌, ℕ, ◌+◌, ◌-◌, ◌<◌, ◌≤◌, Bool, true, false, List, [], ◌∷◌, length, Option, None, Some, refl, sym, ◌∙◌, ap, subst, arith, not}
use Rattle.std.specs.Prelude.{Result, Ok, Err}
use Rattle.mm_base.specs.Refusals.{unless, given}
use Rattle.mm_subst.specs.declared.symbol.WSym.{WSym}
use Rattle.mm_subst.specs.Substitutions.{Pairs}
use Rattle.mm_unify.specs.declared.listing.Listing.{Listing}
use Rattle.mm_unify.specs.declared.listing.Settings.{Settings}
use Rattle.mm_unify.specs.Search.{Answer}
use Rattle.mm_plain.specs.declared.plain.Plain.{Plain}
use Rattle.mm_plain.specs.Binding.{HasWorkKeys}
use Rattle.mm_plain.specs.Shape.{Proof, step_at, steps_of, target_of}
use Rattle.mm_plain.specs.Sources.{is_pending, source_of}
use Rattle.mm_edit.specs.Applying.{applying}
use Rattle.mm_edit.specs.Edited.{IsListing, IsUnified, answer_in}
use Rattle.mm_edit.specs.Listed.{chosen, listed_at, listed_with}
use Rattle.mm_edit.specs.Steps.{has_step, is_unknown}
use Rattle.mm_edit.specs.Unifying.{step_unified}
use Rattle.mm_edit.specs.declared.edit_fault.EditFault.{EditFault}
use Rattle.mm_edit.specs.declared.unification.UnifyFault.{UnifyFault}
use Rattle.mm_edit.proofs.Listings.{chosen-in, keys-chosen}

pub keys-at : (bytes : List ℕ) (set : Settings) (y : Plain) (choice : Option ℕ) (t : Listing) (u : Pairs) → IsListing t (listed_at bytes set y) → chosen choice (answer_in t) ≡ Ok u → HasWorkKeys u
keys-at bytes set y choice t u h e = go (source_of bytes y) (chosen-in t (listed_at bytes set y) choice h ∙ e)
  where
    go : (o : Option (List WSym)) → chosen choice (listed_with bytes set (target_of y) o) ≡ Ok u → HasWorkKeys u
    go None f = keys-chosen bytes set (target_of y) [] choice u f
    go (Some s) f = keys-chosen bytes set (target_of y) s choice u f

-- past the first refusals
pub step-so : (bytes : List ℕ) (set : Settings) (p : Proof) (k : ℕ) (choice : Option ℕ) (t : Listing) → has_step p.plain k ≡ true → is_unknown p.plain k ≡ false → is_pending bytes (step_at p.plain k) ≡ true
    → IsListing t (listed_at bytes set (step_at p.plain k)) → given (chosen choice (answer_in t)) (λ theta. applying bytes theta p) ≡ step_unified bytes set p k choice
unfolding step_unified unless
step-so bytes set p k choice t a b d h = rw (a, b, d) (sym (ap (λ r. given r (λ theta. applying bytes theta p)) (chosen-in t (listed_at bytes set (step_at p.plain k)) choice h)))

pub unified-along : (meaning other : Result Proof EditFault) (r : Result Unit UnifyFault) (old now : Proof) → other ≡ meaning → IsUnified other r old now → IsUnified meaning r old now
unified-along meaning other r old now e h = subst (λ (m : Result Proof EditFault). IsUnified m r old now) e h
