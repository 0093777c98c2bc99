-- An accepted DELETE FLOATING_HYPOTHESES keeps a proof valid.
use Rattle.std.proofs.Common.{◌≡◌, ℕ, ◌+◌, ◌≤◌, List, sym, ◌∙◌, subst, arith}
use Rattle.std.specs.Prelude.{Result, Ok, Err}
use Rattle.mm_base.proofs.Refusing.{unless-ok, unless-end}
use Rattle.mm_subst.specs.declared.symbol.WSym.{WSym}
use Rattle.mm_plain.specs.Floats.{bared_in}
use Rattle.mm_plain.specs.Shape.{Proof}
use Rattle.mm_plain.proofs.Floats.{valid-bared}
use Rattle.mm_edit.specs.Deleting.{floats_deleted}
use Rattle.mm_edit.specs.Keeping.{IsKept, IsProofOf}

pub kept-floats_deleted : (bytes : List ℕ) (at : ℕ) (goal : List WSym) (p q : Proof) → IsProofOf bytes at goal p → floats_deleted bytes p ≡ Ok q → IsKept bytes at goal p q
unfolding floats_deleted
kept-floats_deleted bytes at goal p q v h =
    let a = unless-ok _ _ _ _ q h in
    let e : Ok (bared_in bytes p) ≡ Ok q = sym (unless-end _) ∙ a.1 in
    let z : bared_in bytes p ≡ q = cc in
    subst (IsKept bytes at goal p) z (record { valid = valid-bared bytes at goal p v.valid; drawn = omega arith })
