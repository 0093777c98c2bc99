-- An accepted INITIALIZE, and an accepted DELETE of a step, keep a proof valid.
use Rattle.std.proofs.Common.{◌≡◌, ℕ, ◌+◌, ◌≤◌, ◌<◌, List, [], ◌∷◌, refl, sym, ◌∙◌, ap, subst, arith}
use Rattle.std.specs.Prelude.{Result, Ok, Err}
use Rattle.mm_base.proofs.Refusing.{unless-ok, unless-end}
use Rattle.mm_subst.specs.declared.symbol.WSym.{WSym}
use Rattle.mm_plain.specs.Drawing.{draws_of, with_fresh_in}
use Rattle.mm_plain.specs.Grafts.{cleared_in}
use Rattle.mm_plain.specs.Shape.{Proof, size_of, step_at}
use Rattle.mm_plain.specs.Valid.{IsValid}
use Rattle.mm_plain.proofs.Drawing.{valid-with_fresh}
use Rattle.mm_plain.proofs.Equations.{size_of-pos}
use Rattle.mm_plain.proofs.Grafts.{valid-cleared}
use Rattle.mm_edit.specs.Initializing.{all_initialized, initialized, part_initialized}
use Rattle.mm_edit.specs.Deleting.{deleted}
use Rattle.mm_edit.specs.Keeping.{IsKept, IsProofOf}
use Rattle.mm_edit.proofs.Applied.{stands-there}
use Rattle.mm_edit.proofs.Assigning.{not-above}

kept-part : (bytes : List ℕ) (at : ℕ) (goal : List WSym) (p q : Proof) (k : ℕ) → IsProofOf bytes at goal p → (1 ≤ k) × (k ≤ size_of p.plain) → part_initialized bytes p k ≡ Ok q → IsKept bytes at goal p q
kept-part bytes at goal p q k v there h =
    let c = unless-ok _ _ _ _ q h in
    let d = unless-ok _ _ _ _ q c.1 in
    let e : Ok (with_fresh_in bytes p k) ≡ Ok q = sym (unless-end _) ∙ d.1 in
    let z : with_fresh_in bytes p k ≡ q = cc in
    subst (IsKept bytes at goal p) z (record { valid = valid-with_fresh bytes at goal p k v.valid there.0 there.1 (not-above _ _ d.0); drawn = omega arith })

pub kept-initialized : (bytes : List ℕ) (at : ℕ) (goal : List WSym) (p q : Proof) (k : ℕ) → IsProofOf bytes at goal p → initialized bytes p k ≡ Ok q → IsKept bytes at goal p q
unfolding initialized
kept-initialized bytes at goal p q k v h =
    let a = unless-ok _ _ _ _ q h in
    let b = unless-ok _ _ _ _ q a.1 in
    kept-part bytes at goal p q k v (stands-there p.plain k a.0) b.1

pub kept-all_initialized : (bytes : List ℕ) (at : ℕ) (goal : List WSym) (p q : Proof) → IsProofOf bytes at goal p → all_initialized bytes p ≡ Ok q → IsKept bytes at goal p q
unfolding all_initialized
kept-all_initialized bytes at goal p q v h = kept-part bytes at goal p q (size_of p.plain) v (size_of-pos p.plain, omega arith) h

pub kept-deleted : (bytes : List ℕ) (at : ℕ) (goal : List WSym) (p q : Proof) (k : ℕ) → IsProofOf bytes at goal p → deleted p k ≡ Ok q → IsKept bytes at goal p q
unfolding deleted
kept-deleted bytes at goal p q k v h =
    let a = unless-ok _ _ _ _ q h in
    let b = unless-ok _ _ _ _ q a.1 in
    let there = stands-there p.plain k a.0 in
    let e : Ok (cleared_in p k) ≡ Ok q = sym (unless-end _) ∙ b.1 in
    let z : cleared_in p k ≡ q = cc in
    subst (IsKept bytes at goal p) z (record { valid = valid-cleared bytes at goal p k v.valid there.0 there.1; drawn = omega arith })
