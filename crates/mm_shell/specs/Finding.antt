-- What commands look for.
use Rattle.std.specs.Prelude.{◌&&◌, not, ℕ, Bool, true, false, List, [], ◌∷◌, Option, Some, None, Result, Ok, Err}
use Rattle.mm_scope.specs.Contents.{find_label, stated_at}
use Rattle.mm_scope.specs.Description.{is_change_guarded, is_usage_guarded}
use Rattle.mm_stated.specs.declared.statement.Kind.{Kind}
use Rattle.mm_stated.specs.declared.statement.Kind.TheVariants.{Theorem}
use Rattle.mm_shell.specs.Answers.{unless, given, found_or}
use Rattle.mm_shell.specs.OpenProofs.{ProofState}
use Rattle.mm_shell.specs.declared.refusal.Refusal.{Refusal}
use Rattle.mm_shell.specs.declared.refusal.Refusal.TheVariants.{NoDatabase, NoStatement, NotTheorem, NoProofOpen}
use Rattle.mm_shell.specs.declared.state.State.{State}

abbrev pub is_theorem : Kind → Bool
is_theorem Theorem = true
is_theorem _ = false

abbrev pub database_of : State → Result (List ℕ) Refusal
database_of s = found_or s.database NoDatabase

abbrev pub statement_named : List ℕ → List ℕ → Result ℕ Refusal
statement_named bytes label = found_or (find_label bytes label) (NoStatement label)

abbrev pub theorem_named : List ℕ → List ℕ → Result ℕ Refusal
theorem_named bytes label =
    given (statement_named bytes label) (λ id.
    unless ((not (is_theorem (stated_at bytes id).kind), NotTheorem label) ∷ []) (Ok id))

-- the database and the open proof
abbrev pub proof_of : State → Result (List ℕ × ProofState) Refusal
proof_of s =
    given (found_or s.database NoProofOpen) (λ bytes.
    given (found_or s.open_proof NoProofOpen) (λ p. Ok (bytes, p)))

-- whether a theorem is guarded against change, and that isn't overridden
abbrev pub is_closed : Bool → List ℕ → ℕ → Bool
is_closed guarded_too bytes id = not guarded_too && is_change_guarded bytes id

-- whether a statement is guarded against use, and that isn't overridden
abbrev pub is_forbidden : Bool → List ℕ → ℕ → Bool
is_forbidden guarded_too bytes id = not guarded_too && is_usage_guarded bytes id
