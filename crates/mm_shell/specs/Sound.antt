-- When the state of a session is sound.
use Rattle.std.specs.Prelude.{◌≡◌, ◌<◌, ℕ, true, List, length, Option, None, Some}
use Rattle.std.specs.List.{All}
use Rattle.mm_scope.specs.Contents.{is_read, labels_of, stated_at}
use Rattle.mm_stated.specs.declared.statement.Kind.TheVariants.{Theorem}
use Rattle.mm_subst.specs.Statements.{statement_of}
use Rattle.mm_plain.specs.Shape.{Proof}
use Rattle.mm_plain.specs.Valid.{IsValid}
use Rattle.mm_shell.specs.OpenProofs.{ProofState}
use Rattle.mm_shell.specs.declared.state.State.{State}

-- a valid proof of the statement of a theorem
abbrev pub IsProofOf : List ℕ → ℕ → Proof → Type 0
IsProofOf bytes id p = IsValid bytes id (statement_of bytes id) p

-- the open proof is a valid one of a theorem of the database, and so is each that it was and each that was undone
pub record IsOpenIn (bytes : List ℕ) (p : ProofState) : Type 0 where
  pub own : p.theorem < length (labels_of bytes)
  pub theorem : (stated_at bytes p.theorem).kind ≡ Theorem
  pub valid : IsProofOf bytes p.theorem p.proof
  pub past : All (IsProofOf bytes p.theorem) p.past
  pub future : All (IsProofOf bytes p.theorem) p.future

-- the database is one that is read, and a proof is open only where there is a database
abbrev pub AreSound : Option (List ℕ) → Option ProofState → Type 0
AreSound None None = Unit {0}
AreSound None (Some p) = ⊥
AreSound (Some bytes) None = is_read bytes ≡ true
AreSound (Some bytes) (Some p) = (is_read bytes ≡ true) × IsOpenIn bytes p

abbrev pub IsSound : State → Type 0
IsSound state = AreSound state.database state.open_proof
