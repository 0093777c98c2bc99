-- Which theorems hold after the commands of a session, and what is left of a database.
use Rattle.std.proofs.Common.{◌≡◌, ℕ, zero, suc, true, List, Option, None, Some, refl, sym, subst, true≢false}
use Rattle.mm_scope.specs.Contents.{is_read}
use Rattle.mm_plain.specs.Labels.{label_at}
use Rattle.mm_plain.proofs.Labels.{has_label}
use Rattle.mm_stack.specs.Accepting.{Accepts}
use Rattle.mm_command.specs.Meanings.{WriteSource}
use Rattle.mm_shell.specs.Saves.{Holds, HoldsIn}
use Rattle.mm_step.specs.Asked.{Asked, Asks, asked_of}
use Rattle.mm_step.specs.Effects.{asked_effect, ended, step_of}
use Rattle.mm_step.proofs.LawLemmas as step
use Rattle.mm_session.specs.Session.{Script, Turn, session, turn}
use Rattle.mm_session.specs.Saves.{is_proved, AcceptsIn, SavedTheoremsHold, WrittenTheoremsHold, OnlySavesChange, PutsTheDatabase}
use Rattle.mm_session.proofs.SoundLemmas.{session_is_sound, database_is_sound}

holds_after : (s : Script) (n theorem : ℕ) → is_proved s n theorem ≡ true → HoldsIn (session s n).state.database theorem
unfolding session is_proved step_of
holds_after s zero theorem e = absurd (true≢false (sym e))
holds_after s (suc n) theorem e =
    let t : Turn = turn s n in
    step.saved_theorems_hold (asked_of t.line) t.machine.state t.map t.outcome theorem (is_proved s n theorem) (session_is_sound s n) (holds_after s n theorem) e

accepted_by : (bytes : List ℕ) (theorem : ℕ) → is_read bytes ≡ true → Holds bytes theorem → Accepts bytes (label_at bytes theorem)
accepted_by bytes theorem read h = record { id = theorem; read = read; found = (has_label bytes theorem h.own).found; theorem = h.kind; accepted = h.accepted }

pub saved_theorems_hold : SavedTheoremsHold
saved_theorems_hold s n theorem e = at (session s n).state.database (λ bytes is. database_is_sound s n bytes is) (holds_after s n theorem e) where
  at : (d : Option (List ℕ)) → ((bytes : List ℕ) → d ≡ Some bytes → is_read bytes ≡ true) → HoldsIn d theorem → AcceptsIn d theorem
  at None read h = h
  at (Some bytes) read h = accepted_by bytes theorem (read bytes refl) h

puts_by : (asked : Asked) (t : Turn) (name : List ℕ) (put : List ℕ × List ℕ) → asked ≡ Asks (WriteSource name) → (ended t.outcome t.machine.state (asked_effect asked t.machine.state t.map)).put ≡ Some put → t.machine.state.database ≡ Some put.1
puts_by asked t name put is e =
    step.puts_the_database name t.machine.state t.map t.outcome put (subst (λ (x : Asked). (ended t.outcome t.machine.state (asked_effect x t.machine.state t.map)).put ≡ Some put) is e)

pub puts_the_database : PutsTheDatabase
unfolding step_of
puts_the_database s n name put asked e = let t : Turn = turn s n in puts_by (asked_of t.line) t name put asked e

pub written_theorems_hold : WrittenTheoremsHold
written_theorems_hold s n theorem name put proved asked e = subst (λ (d : Option (List ℕ)). AcceptsIn d theorem) (puts_the_database s n name put asked e) (saved_theorems_hold s n theorem proved)

pub only_saves_change : OnlySavesChange
unfolding session step_of
only_saves_change s n bytes is = let t : Turn = turn s n in step.only_saves_change (asked_of t.line) t.machine.state t.map t.outcome bytes (session_is_sound s n) is
