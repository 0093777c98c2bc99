-- An accepted UNIFY keeps a proof valid, and after UNIFY ALL no pending step has an only unifier.
use Rattle.std.proofs.Common.{zero, suc, ◌≡◌, ℕ, ◌+◌, ◌≤◌, ◌<◌, Bool, true, false, List, [], ◌∷◌, map, length, count_by, is_none, Option, None, Some, refl, sym, ◌∙◌, ap, subst, arith, not, if◌then◌else◌, cond}
use Rattle.std.specs.Prelude.{Result, Ok, Err}
use Rattle.std.proofs.lemmas.Option.{none-some}
use Rattle.mm_base.specs.Refusals.{unless, given}
use Rattle.mm_base.proofs.Refusing.{unless-ok, unless-end, given-ok}
use Rattle.mm_subst.specs.declared.symbol.WSym.{WSym}
use Rattle.mm_subst.specs.Substitutions.{Pairs}
use Rattle.mm_unify.specs.declared.listing.Settings.{Settings}
use Rattle.mm_unify.specs.Search.{Answer}
use Rattle.mm_plain.specs.declared.plain.Plain.{Plain}
use Rattle.mm_plain.specs.Binding.{IsBinding}
use Rattle.mm_plain.specs.Shape.{Each, Proof, steps_of, step_at, target_of, size_of}
use Rattle.mm_plain.specs.Sources.{source_of, differs_from, is_pending, label_of}
use Rattle.mm_plain.specs.Valid.{Setting, setting_of, IsString, IsGood, IsSound, IsValid}
use Rattle.mm_edit.specs.Applying.{applying}
use Rattle.mm_edit.specs.Counts.{pending_count}
use Rattle.mm_edit.specs.Keeping.{IsKept, IsProofOf}
use Rattle.mm_edit.specs.Listed.{listed_with, listed_at, only_unifier, chosen}
use Rattle.mm_edit.specs.Steps.{is_unknown}
use Rattle.mm_edit.specs.Unifying.{step_unified, unifier_in, unifier_at, or_next, first_unifier, going_on, unified_in, all_unified}
use Rattle.mm_edit.specs.declared.edit_fault.EditFault.{EditFault}
use Rattle.mm_edit.proofs.Applied.{IsSource, kept-applying, binding-only, binding-chosen, stands-there, source-good}
use Rattle.mm_plain.proofs.Kept.{step-good, target-good}

-- one step

known-there : (x : Plain) (k : ℕ) → is_unknown x k ≡ false → is_none (label_of (step_at x k)) ≡ false
known-there x k h = h

-- a unifier of the strings of a good step binds strings of the setting
pub binding-good : (bytes : List ℕ) (at : ℕ) (set : Settings) (p : Proof) (y : Plain) (choice : Option ℕ) (u : Pairs) → IsGood (setting_of bytes at p) y → is_pending bytes y ≡ true
    → chosen choice (listed_at bytes set y) ≡ Ok u → IsBinding (setting_of bytes at p) u
unfolding is_pending
binding-good bytes at set p y choice u g w e = go (source_of bytes y) refl w e
  where
    go : (o : Option (List WSym)) → source_of bytes y ≡ o → differs_from o (target_of y) ≡ true → chosen choice (listed_with bytes set (target_of y) o) ≡ Ok u → IsBinding (setting_of bytes at p) u
    go None f w e = cc
    go (Some s) f w e =
        binding-chosen bytes at set p (target_of y) s choice u (target-good (setting_of bytes at p) y g) (subst (IsSource (setting_of bytes at p)) f (source-good (setting_of bytes at p) y g)) e

from-not : (b : Bool) → not b ≡ false → b ≡ true
from-not true h = refl
from-not false h = cc

pub kept-step_unified : (bytes : List ℕ) (at : ℕ) (set : Settings) (goal : List WSym) (p q : Proof) (k : ℕ) (choice : Option ℕ) → IsProofOf bytes at goal p → step_unified bytes set p k choice ≡ Ok q → IsKept bytes at goal p q
unfolding step_unified
kept-step_unified bytes at set goal p q k choice v h =
    let a = unless-ok _ _ _ _ q h in
    let b = unless-ok _ _ _ _ q a.1 in
    let c = unless-ok _ _ _ _ q b.1 in
    let there = stands-there p.plain k a.0 in
    let y = step_at p.plain k in
    let g = given-ok (chosen choice (listed_at bytes set y)) (λ theta. applying bytes theta p) q (sym (unless-end _) ∙ c.1) in
    kept-applying bytes at goal g.0 p q v
    (binding-good bytes at set p y choice g.0 (step-good (setting_of bytes at p) p.plain k there.0 there.1 v.valid.steps) (from-not _ c.0) g.1) g.2

-- all steps

in-result : (r : Result Pairs EditFault) (u : Pairs) → unifier_in r ≡ Some u → r ≡ Ok u
in-result (Ok v) u h = let z : v ≡ u = cc in ap Ok z
in-result (Err f) u h = absurd (none-some u h)

pub record IsUnifierAt (bytes : List ℕ) (set : Settings) (y : Plain) (u : Pairs) : Type 0 where
  pub pending : is_pending bytes y ≡ true
  pub only : only_unifier (listed_at bytes set y) ≡ Ok u

pub at-step : (bytes : List ℕ) (set : Settings) (y : Plain) (u : Pairs) → unifier_at bytes set y ≡ Some u → IsUnifierAt bytes set y u
at-step bytes set y u h = go (is_pending bytes y) refl h
  where
    go : (b : Bool) → is_pending bytes y ≡ b → (if b then unifier_in (only_unifier (listed_at bytes set y)) else None) ≡ Some u → IsUnifierAt bytes set y u
    go true e h = record { pending = e; only = in-result (only_unifier (listed_at bytes set y)) u h }
    go false e h = absurd (none-some u h)

first-good : (P : Plain → Type 0) (bytes : List ℕ) (set : Settings) (ys : List Plain) (u : Pairs) → Each P ys → first_unifier bytes set ys ≡ Some u → (y : Plain) × (P y) × (unifier_at bytes set y ≡ Some u)
first-good P bytes set [] u e h = absurd (none-some u h)
first-good P bytes set (y ∷ ys) u e h = go (unifier_at bytes set y) refl h (first-good P bytes set ys u e.1)
  where
    go : (o : Option Pairs) → unifier_at bytes set y ≡ o → or_next o (first_unifier bytes set ys) ≡ Some u
        → (first_unifier bytes set ys ≡ Some u → (z : Plain) × (P z) × (unifier_at bytes set z ≡ Some u)) → (z : Plain) × (P z) × (unifier_at bytes set z ≡ Some u)
    go (Some w) f h later = (y, e.0, f ∙ h)
    go None f h later = later h

pub binding-first : (bytes : List ℕ) (at : ℕ) (set : Settings) (goal : List WSym) (p : Proof) (u : Pairs) → IsValid bytes at goal p → first_unifier bytes set (steps_of p.plain) ≡ Some u → IsBinding (setting_of bytes at p) u
unfolding IsSound
binding-first bytes at set goal p u v h =
    let f = first-good (IsGood (setting_of bytes at p)) bytes set (steps_of p.plain) u v.steps h in
    let w = at-step bytes set f.0 u f.2 in
    binding-good bytes at set p f.0 None u f.1 w.pending w.only

kept-itself : (bytes : List ℕ) (at : ℕ) (goal : List WSym) (p : Proof) → IsProofOf bytes at goal p → IsKept bytes at goal p p
kept-itself bytes at goal p v = record { valid = v.valid; drawn = omega arith }

pub kept-unified_in : (n : ℕ) (bytes : List ℕ) (at : ℕ) (set : Settings) (goal : List WSym) (p q : Proof) → IsProofOf bytes at goal p → unified_in n bytes set p ≡ Ok q → IsKept bytes at goal p q
unfolding unified_in
kept-unified_in zero bytes at set goal p q v h = let z : p ≡ q = cc in subst (IsKept bytes at goal p) z (kept-itself bytes at goal p v)
kept-unified_in (suc n) bytes at set goal p q v h = go (first_unifier bytes set (steps_of p.plain)) refl h (λ r. kept-unified_in n bytes at set goal r q)
  where
    go : (o : Option Pairs) → first_unifier bytes set (steps_of p.plain) ≡ o
        → going_on o p (λ theta. given (applying bytes theta p) (unified_in n bytes set))
        ≡ Ok q → ((r : Proof) → IsProofOf bytes at goal r → unified_in n bytes set r ≡ Ok q → IsKept bytes at goal r q) → IsKept bytes at goal p q
    go None e h later = let z : p ≡ q = cc in subst (IsKept bytes at goal p) z (kept-itself bytes at goal p v)
    go (Some u) e h later =
        let g = given-ok (applying bytes u p) (unified_in n bytes set) q h in
        let w = kept-applying bytes at goal u p g.0 v (binding-first bytes at set goal p u v.valid e) g.1 in
        let k = later g.0 (record { valid = w.valid; fixed = v.fixed }) g.2 in
        record { valid = k.valid; drawn = let a = w.drawn in let b = k.drawn in omega arith }

pub kept-all_unified : (bytes : List ℕ) (at : ℕ) (set : Settings) (goal : List WSym) (p q : Proof) → IsProofOf bytes at goal p → all_unified bytes set p ≡ Ok q → IsKept bytes at goal p q
unfolding all_unified
kept-all_unified bytes at set goal p q v h =
    let a = unless-ok _ _ _ _ q h in
    kept-unified_in (pending_count bytes p.plain) bytes at set goal p q v (sym (unless-end _) ∙ a.1)
