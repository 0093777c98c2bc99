-- The state is sound after each command.
use Rattle.std.proofs.Common.{◌≡◌, ℕ, zero, suc, true, List, Option, Some, None, sym, ap, ◌∙◌}
use Rattle.mm_scope.specs.Contents.{is_read}
use Rattle.mm_shell.specs.OpenProofs.{ProofState}
use Rattle.mm_shell.specs.Sound.{AreSound}
use Rattle.mm_step.specs.Asked.{asked_of}
use Rattle.mm_step.specs.Effects.{step_of}
use Rattle.mm_step.proofs.LawLemmas.{stays_sound}
use Rattle.mm_session.specs.Session.{Script, session, turn}
use Rattle.mm_session.specs.Laws.{SessionIsSound}

pub session_is_sound : SessionIsSound
unfolding session step_of
session_is_sound s zero = tt
session_is_sound s (suc n) = let t = turn s n in stays_sound (asked_of t.line) t.machine.state t.map t.outcome (session_is_sound s n)

some_same : (a b : List ℕ) → (let x : Option (List ℕ) = Some a in x) ≡ Some b → a ≡ b
some_same a b e = cc

database_read : (database : Option (List ℕ)) (p : Option ProofState) → AreSound database p → (bytes : List ℕ) → database ≡ Some bytes → is_read bytes ≡ true
database_read None p sound bytes e = let never : (let x : Option (List ℕ) = None in x) ≡ Some bytes = e in cc
database_read (Some b) None sound bytes e = ap is_read (sym (some_same b bytes e)) ∙ sound
database_read (Some b) (Some p) sound bytes e = ap is_read (sym (some_same b bytes e)) ∙ sound.0

-- the database is one that is read
pub database_is_sound : (s : Script) (n : ℕ) (bytes : List ℕ) → (session s n).state.database ≡ Some bytes → is_read bytes ≡ true
database_is_sound s n bytes e = database_read (session s n).state.database (session s n).state.open_proof (session_is_sound s n) bytes e
