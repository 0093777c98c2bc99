-- What commands save, and which theorems hold by it.
use Rattle.std.specs.Prelude.{◌<◌, length, ◌≡◌, ◌==◌, ℕ, Bool, true, false, List, Option, None, Some, Ok, Err, if◌then◌else◌}
use Rattle.mm_scope.specs.Contents.{labels_of, stated_at}
use Rattle.mm_stated.specs.declared.statement.Kind.TheVariants.{Theorem}
use Rattle.mm_stack.specs.Accepting.{verdict_of}
use Rattle.mm_proof.specs.Decoding.{proof_of}
use Rattle.mm_stack.specs.declared.outcome.Verdict.TheVariants.{Accepted}
use Rattle.mm_splice.specs.Splicing.{spliced}
use Rattle.mm_shell.specs.Answers.{Answer}
use Rattle.mm_shell.specs.declared.answer.Saving.{Saving}
use Rattle.mm_shell.specs.declared.answer.Change.{Change}
use Rattle.mm_shell.specs.declared.answer.Change.TheVariants.{Saves}

-- a save: the theorem's number, the bytes between its `$=` and its `$.`, and whether each step is known
pub record Save : Type 0 where
  pub theorem : ℕ
  pub text : List ℕ
  pub complete : Bool

abbrev pub save_in : Saving → Save
save_in x = record { theorem = x.theorem.0; text = proof_of x.database x.theorem.0; complete = x.complete }

-- what an answer saves
abbrev pub saved_by : Answer → Option Save
saved_by (Ok done) = of done.change where
  of : Change → Option Save
  of (Saves x) = Some (save_in x)
  of change = None
saved_by (Err refusal) = None

-- a database after it
abbrev pub with_save : List ℕ → Option Save → List ℕ
with_save bytes None = bytes
with_save bytes (Some save) = spliced bytes save.theorem save.text

-- whether the last save of a theorem was complete, by whether it was so before this one
abbrev pub last_complete : ℕ → Option Save → Bool → Bool
last_complete theorem None before = before
last_complete theorem (Some save) before = if theorem == save.theorem then save.complete else before

-- a database says that its theorem with a number holds: its proof is accepted
pub record Holds (bytes : List ℕ) (theorem : ℕ) : Type 0 where
  pub own : theorem < length (labels_of bytes)
  pub kind : (stated_at bytes theorem).kind ≡ Theorem
  pub accepted : verdict_of bytes theorem ≡ Accepted

abbrev pub HoldsIn : Option (List ℕ) → ℕ → Type 0
HoldsIn None theorem = ⊥
HoldsIn (Some bytes) theorem = Holds bytes theorem
