-- What the session machine means in the words of databases.
use Rattle.std.specs.Prelude.{◌≡◌, ℕ, suc, true, false, List, [], ◌∷◌, Contains, Some, Ok}
use Rattle.mm_scope.specs.Contents.{is_read}
use Rattle.mm_plain.specs.Labels.{label_at}
use Rattle.mm_stack.specs.Accepting.{Accepts}
use Rattle.mm_command.specs.Meanings.{Read, VerifyProof}
use Rattle.mm_stack.specs.declared.outcome.Verdict.TheVariants.{Accepted}
use Rattle.mm_shell.specs.Answers.{reports}
use Rattle.mm_shell.specs.declared.answer.Change.{Change}
use Rattle.mm_shell.specs.declared.checks.Check.{Check}
use Rattle.mm_shell.specs.declared.report.Report.TheVariants.{Verified}
use Rattle.mm_database_commands.specs.Commands.{is_pattern}
use Rattle.mm_step.specs.Asked.{Asks, asked_of}
use Rattle.mm_shell.specs.Sound.{IsSound}
use Rattle.mm_session.specs.Session.{Script, Turn, session, turn, effect_of, done}

-- The command asks for the proof with a label, and the database, which has these bytes, accepts it.
pub record IsAccepted (t : Turn) (bytes label : List ℕ) : Type 0 where
  pub asked : asked_of t.line ≡ Asks (VerifyProof label)
  pub plain : is_pattern label ≡ false
  pub database : t.machine.state.database ≡ Some bytes
  pub accepts : Accepts bytes label

-- Where a command reports that a proof is accepted, the database accepts it.
abbrev pub SaysAccepted : Type 0
SaysAccepted = (s : Script) (n : ℕ) (bytes : List ℕ) (checks : List Check) (change : Change) (check : Check) → (effect_of (turn s n)).answer ≡ Ok (record { report = Verified bytes checks; change = change })
    → Contains checks check → check.verdict ≡ Accepted → ((session s n).state.database ≡ Some bytes) × Accepts bytes (label_at bytes check.theorem.0)

abbrev pub accepted_check : ℕ → Check
accepted_check id = record { theorem = record { 0 = id }; verdict = Accepted }

-- Where a command asks for a proof that is accepted, it reports so.
abbrev pub AcceptedIsSaid : Type 0
AcceptedIsSaid = (s : Script) (n : ℕ) (bytes label : List ℕ) (a : IsAccepted (turn s n) bytes label) → (effect_of (turn s n)).answer ≡ reports (Verified bytes (accepted_check a.accepts.id ∷ []))

-- After any number of commands the database, if there is one, was read and has no fault; and a proof in hand is a valid one
-- of the statement of a theorem of that database.
abbrev pub SessionIsSound : Type 0
SessionIsSound = (s : Script) (n : ℕ) → IsSound (session s n).state

-- What READ puts into the state, where it isn't refused, is what the file has.
pub record IsRead (t : Turn) (name : List ℕ) : Type 0 where
  pub bytes : List ℕ
  pub found : t.map name ≡ Some bytes
  pub sound : is_read bytes ≡ true
  pub database : (effect_of t).state.database ≡ Some bytes

abbrev pub ReadIsWhole : Type 0
ReadIsWhole = (s : Script) (n : ℕ) (name : List ℕ) → asked_of (turn s n).line ≡ Asks (Read name) → (effect_of (turn s n)).refused ≡ false → IsRead (turn s n) name

-- A command that is refused, starves or meets a file fault leaves the state as it was, and puts nothing into the files.
abbrev pub RefusedChangesNothing : Type 0
RefusedChangesNothing = (s : Script) (n : ℕ) → (done (turn s n)).refused ≡ true → ((session s (suc n)).state ≡ (session s n).state) × ((session s (suc n)).puts ≡ (session s n).puts)
