-- What every accepted edit keeps.
use Rattle.std.specs.Prelude.{◌≡◌, ℕ, ◌≤◌, false, List}
use Rattle.mm_subst.specs.declared.symbol.WSym.{WSym}
use Rattle.mm_subst.specs.Symbols.{has_work}
use Rattle.mm_plain.specs.Shape.{Proof}
use Rattle.mm_plain.specs.Valid.{IsValid}

-- The proof of a goal without work variables stays valid, and no work variable is drawn twice.
pub record IsKept (bytes : List ℕ) (at : ℕ) (goal : List WSym) (p q : Proof) : Type 0 where
  pub valid : IsValid bytes at goal q
  pub drawn : p.next ≤ q.next

-- a valid proof of a goal that has no work variable
pub record IsProofOf (bytes : List ℕ) (at : ℕ) (goal : List WSym) (p : Proof) : Type 0 where
  pub valid : IsValid bytes at goal p
  pub fixed : has_work goal ≡ false
