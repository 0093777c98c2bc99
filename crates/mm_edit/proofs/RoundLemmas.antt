-- One round of UNIFY ALL after another.
use Rattle.std.proofs.Common.{zero, suc, ◌≡◌, ℕ, ◌+◌, ◌-◌, ◌≤◌, ◌<◌, Bool, true, false, List, is_none, is_some, not, Option, None, Some, refl, sym, ◌∙◌, ap, subst, arith}
use Rattle.std.specs.Prelude.{Result, Ok, Err}
use Rattle.std.proofs.lemmas.Bool.{false≢true}
use Rattle.mm_base.specs.Refusals.{unless, given}
use Rattle.mm_subst.specs.declared.symbol.WSym.{WSym}
use Rattle.mm_subst.specs.Substitutions.{Pairs}
use Rattle.mm_unify.specs.declared.listing.Settings.{Settings}
use Rattle.mm_plain.specs.Binding.{HasWorkKeys}
use Rattle.mm_plain.specs.Shape.{Proof, steps_of}
use Rattle.mm_tree.specs.Versions.{Versions, BeginsAlike, KeepsMarks}
use Rattle.mm_edit.specs.Applying.{applying}
use Rattle.mm_edit.specs.Counts.{pending_count}
use Rattle.mm_edit.specs.Keeping.{IsProofOf}
use Rattle.mm_edit.specs.Unifying.{all_unified, first_unifier, going_on, unified_in}
use Rattle.mm_edit.specs.declared.edit_fault.EditFault.{EditFault}
use Rattle.mm_edit.proofs.Applied.{kept-applying}
use Rattle.mm_edit.proofs.Unifying.{binding-first}

pub keys-first : (bytes : List ℕ) (at : ℕ) (set : Settings) (goal : List WSym) (p : Proof) (u : Pairs) → IsProofOf bytes at goal p → Some u ≡ first_unifier bytes set (steps_of p.plain) → HasWorkKeys u
keys-first bytes at set goal p u v e = (binding-first bytes at set goal p u v.valid (sym e)).keys

-- it is a proof of the goal still
pub still-proof : (bytes : List ℕ) (at : ℕ) (set : Settings) (goal : List WSym) (p q : Proof) (u : Pairs) → IsProofOf bytes at goal p → Some u ≡ first_unifier bytes set (steps_of p.plain) → applying bytes u p ≡ Ok q → IsProofOf bytes at goal q
still-proof bytes at set goal p q u v e h =
    let w = kept-applying bytes at goal u p q v (binding-first bytes at set goal p u v.valid (sym e)) h in
    record { valid = w.valid; fixed = v.fixed }

pub round-end : (n : ℕ) (bytes : List ℕ) (set : Settings) (p : Proof) → n ≡ 0 → unified_in n bytes set p ≡ Ok p
unfolding unified_in
round-end zero bytes set p e = refl
round-end (suc n) bytes set p e = absurd (omega arith)

pub round-none : (n : ℕ) (bytes : List ℕ) (set : Settings) (p : Proof) → 0 < n → None ≡ first_unifier bytes set (steps_of p.plain) → unified_in n bytes set p ≡ Ok p
unfolding unified_in
round-none zero bytes set p l e = absurd (omega arith)
round-none (suc n) bytes set p l e = ap (λ o. going_on o p (λ theta. given (applying bytes theta p) (unified_in n bytes set))) (sym e)

round-some : (n : ℕ) (bytes : List ℕ) (set : Settings) (p : Proof) (u : Pairs) → 0 < n → Some u ≡ first_unifier bytes set (steps_of p.plain)
    → unified_in n bytes set p ≡ given (applying bytes u p) (unified_in (n - 1) bytes set)
unfolding unified_in
round-some zero bytes set p u l e = absurd (omega arith)
round-some (suc n) bytes set p u l e =
    let z : n ≡ suc n - 1 = omega arith in
    ap (λ o. going_on o p (λ theta. given (applying bytes theta p) (unified_in n bytes set))) (sym e) ∙ ap (λ m. given (applying bytes u p) (unified_in m bytes set)) z

pub round-ok : (n : ℕ) (bytes : List ℕ) (set : Settings) (p q : Proof) (u : Pairs) → 0 < n → Some u ≡ first_unifier bytes set (steps_of p.plain) → applying bytes u p ≡ Ok q
    → unified_in n bytes set p ≡ unified_in (n - 1) bytes set q
unfolding given
round-ok n bytes set p q u l e h = round-some n bytes set p u l e ∙ ap (λ r. given r (unified_in (n - 1) bytes set)) h

pub round-err : (n : ℕ) (bytes : List ℕ) (set : Settings) (p : Proof) (u : Pairs) (f : EditFault) → 0 < n → Some u ≡ first_unifier bytes set (steps_of p.plain) → applying bytes u p ≡ Err f
    → unified_in n bytes set p ≡ Err f
unfolding given
round-err n bytes set p u f l e h = round-some n bytes set p u l e ∙ ap (λ r. given r (unified_in (n - 1) bytes set)) h

-- versions along two calls

pub keeps-along : (u v w : Versions) → KeepsMarks u v → KeepsMarks v w → KeepsMarks u w
keeps-along u v w h k m a =
    let first = h m a in
    let second = k m first.alive in
    record { alive = second.alive; same = second.same ∙ first.same }

pub begins-along : (u v w : Versions) → BeginsAlike u v → BeginsAlike v w → BeginsAlike u w
begins-along u v w h k = (k.0 ∙ h.0, k.1 ∙ h.1)

pub keeps-itself : (v : Versions) → KeepsMarks v v
keeps-itself v m a = record { alive = a; same = refl }

-- where some step has an only unifier at the start
pub all-so : (bytes : List ℕ) (set : Settings) (p : Proof) (most : ℕ) → is_none (first_unifier bytes set (steps_of p.plain)) ≡ false → most ≡ pending_count bytes p.plain → all_unified bytes set p ≡ unified_in most bytes set p
unfolding all_unified unless
all-so bytes set p most e n = rw e (ap (λ m. unified_in m bytes set p) (sym n))

pub some-there : (o : Option Pairs) (b : Bool) → is_some o ≡ not b → b ≡ false → is_none o ≡ false
some-there None b h e = absurd (false≢true (h ∙ ap not e))
some-there (Some u) b h e = refl
