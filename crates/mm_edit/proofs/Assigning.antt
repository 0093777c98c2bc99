-- An accepted ASSIGN keeps a proof valid.
use Rattle.std.proofs.Common.{◌≡◌, ℕ, ◌+◌, ◌≤◌, ◌<◌, Bool, true, false, List, [], ◌∷◌, length, refl, sym, ◌∙◌, ap, subst, arith, not}
use Rattle.std.specs.Prelude.{Result, Ok, Err, nat_lt}
use Rattle.mm_base.specs.Refusals.{unless}
use Rattle.mm_base.proofs.Refusing.{unless-ok, unless-end}
use Rattle.mm_subst.specs.declared.symbol.WSym.{WSym}
use Rattle.mm_subst.specs.Statements.{statement_of}
use Rattle.mm_subst.specs.Substitutions.{Pairs, applied}
use Rattle.mm_unify.specs.declared.listing.Settings.{Settings}
use Rattle.mm_unify.specs.Search.{Answer}
use Rattle.mm_plain.specs.Binding.{IsBinding}
use Rattle.mm_plain.specs.Drawing.{fresh_for}
use Rattle.mm_plain.specs.Grafts.{raised}
use Rattle.mm_plain.specs.Premises.{may_stand, variables_for}
use Rattle.mm_plain.specs.Shape.{Proof, size_of, height_of, step_at, target_of}
use Rattle.mm_plain.specs.Valid.{Setting, setting_of, Fits, IsString, IsValid, placed_in, most_works, most_steps, most_levels}
use Rattle.mm_plain.proofs.Fresh.{fits-fresh}
use Rattle.mm_plain.proofs.Grafts.{valid-raised}
use Rattle.mm_plain.proofs.Kept.{valid-placed}
use Rattle.mm_edit.specs.Applying.{applying, applying_only}
use Rattle.mm_edit.specs.Assigning.{draws, named, listed_named, assigned}
use Rattle.mm_edit.specs.Keeping.{IsKept, IsProofOf}
use Rattle.mm_edit.specs.Listed.{listed, has_none, only_unifier}
use Rattle.mm_edit.specs.Steps.{has_step, is_unknown, not_standing, is_spent, has_many, is_deep}
use Rattle.mm_edit.specs.declared.edit_fault.EditFault.{EditFault}
use Rattle.mm_edit.specs.declared.edit_fault.EditFault.TheVariants.{NoSuchStep, StepKnown, TooManySteps, TooDeep, WorkSpent, NoUnifier}
use Rattle.mm_edit.proofs.Applied.{kept-applying, binding-only, stands-there, target-string}

pub not-above : (m n : ℕ) → nat_lt m n ≡ false → n ≤ m
not-above m n h = grind arith

pub from-not : (b : Bool) → not b ≡ false → b ≡ true
from-not true h = refl
from-not false h = cc

-- what an accepted naming of a statement needs
pub record IsNaming (bytes : List ℕ) (at : ℕ) (p : Proof) (k id : ℕ) : Type 0 where
  pub stands : may_stand bytes at id ≡ true
  pub low : 1 ≤ k
  pub high : k ≤ size_of p.plain
  pub drawn : p.next + draws bytes id ≤ most_works + 1

abbrev pub raised_for : List ℕ → Proof → ℕ → Proof
raised_for bytes p id = raised (draws bytes id) p

pub fits-named : (bytes : List ℕ) (at : ℕ) (goal : List WSym) (p : Proof) (k id : ℕ) → IsValid bytes at goal p → IsNaming bytes at p k id → Fits (setting_of bytes at (raised_for bytes p id)) id (fresh_for bytes p.next id)
fits-named bytes at goal p k id v n = fits-fresh (setting_of bytes at (raised_for bytes p id)) p.next id n.stands v.counter.0 (omega arith)

pub kept-named : (bytes : List ℕ) (at : ℕ) (goal : List WSym) (p : Proof) (k id : ℕ) → IsProofOf bytes at goal p → IsNaming bytes at p k id
    → size_of (named bytes p k id).plain ≤ most_steps → height_of (named bytes p k id).plain ≤ most_levels → IsProofOf bytes at goal (named bytes p k id)
kept-named bytes at goal p k id v n few low = record {
  valid = valid-placed bytes at goal (raised_for bytes p id) k id (fresh_for bytes p.next id) (valid-raised bytes at goal p (draws bytes id) v.valid n.drawn) n.low n.high (fits-named bytes at goal p k id v.valid n) few low;
  fixed = v.fixed;
}

pub binding-named : (bytes : List ℕ) (at : ℕ) (set : Settings) (goal : List WSym) (p : Proof) (k id : ℕ) (u : Pairs) → IsValid bytes at goal p → IsNaming bytes at p k id → only_unifier (listed_named bytes set p k id) ≡ Ok u
    → IsBinding (setting_of bytes at (named bytes p k id)) u
binding-named bytes at set goal p k id u v n e =
    binding-only bytes at set (raised_for bytes p id) (target_of (step_at p.plain k)) (applied (fresh_for bytes p.next id) (statement_of bytes id)) u
    (target-string bytes at goal (raised_for bytes p id) k (valid-raised bytes at goal p (draws bytes id) v n.drawn) n.low n.high)
    (fits-named bytes at goal p k id v n).names.source e

-- with the only unifier, or without one
pub kept-only : (bytes : List ℕ) (at : ℕ) (set : Settings) (goal : List WSym) (p q : Proof) (k id : ℕ) → IsProofOf bytes at goal p → IsNaming bytes at p k id
    → size_of (named bytes p k id).plain ≤ most_steps → height_of (named bytes p k id).plain ≤ most_levels
    → applying_only bytes (only_unifier (listed_named bytes set p k id)) (named bytes p k id) ≡ Ok q → IsKept bytes at goal p q
kept-only bytes at set goal p q k id v n few low h = go (only_unifier (listed_named bytes set p k id)) refl h
  where
    m : Proof
    m = named bytes p k id

    is : IsProofOf bytes at goal m
    is = kept-named bytes at goal p k id v n few low

    go : (r : Result Pairs EditFault) → only_unifier (listed_named bytes set p k id) ≡ r → applying_only bytes r m ≡ Ok q → IsKept bytes at goal p q
    go (Ok u) e h =
        let w = kept-applying bytes at goal u m q is (binding-named bytes at set goal p k id u v.valid n e) h in
        record { valid = w.valid; drawn = let d = w.drawn in omega arith }
    go (Err f) e h =
        let z : m ≡ q = cc in
        record { valid = subst (IsValid bytes at goal) z is.valid; drawn = let d : m.next ≡ q.next = ap (λ (x : Proof). x.next) z in omega arith }

pub kept-assigned : (bytes : List ℕ) (at : ℕ) (set : Settings) (goal : List WSym) (p q : Proof) (k id : ℕ) → IsProofOf bytes at goal p → assigned bytes at set p k id ≡ Ok q → IsKept bytes at goal p q
unfolding assigned
kept-assigned bytes at set goal p q k id v h =
    let a = unless-ok _ _ _ _ q h in
    let b = unless-ok _ _ _ _ q a.1 in
    let c = unless-ok _ _ _ _ q b.1 in
    let d = unless-ok _ _ _ _ q c.1 in
    let e = unless-ok _ _ _ _ q d.1 in
    let f = unless-ok _ _ _ _ q e.1 in
    let g = unless-ok _ _ _ _ q f.1 in
    let there = stands-there p.plain k b.0 in
    let n : IsNaming bytes at p k id = record { stands = from-not (may_stand bytes at id) a.0; low = there.0; high = there.1; drawn = not-above _ _ f.0 } in
    kept-only bytes at set goal p q k id v n (not-above _ _ d.0) (not-above _ _ e.0) (sym (unless-end _) ∙ g.1)
