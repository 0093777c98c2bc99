-- What a session has saved, which theorems are accepted by it, and where its database comes from.
use Rattle.std.specs.Prelude.{◌≡◌, ◌+◌, ℕ, zero, suc, Bool, true, false, List, [], ◌∷◌, ◌++◌, Option, None, Some}
use Rattle.mm_plain.specs.Labels.{label_at}
use Rattle.mm_stack.specs.Accepting.{Accepts}
use Rattle.mm_splice.specs.Agreeing.{AgreesWith}
use Rattle.mm_splice.specs.Overlay as splice
use Rattle.mm_splice.specs.Overlay.{last_text}
use Rattle.mm_command.specs.Meanings.{Read, WriteSource}
use Rattle.mm_shell.specs.Saves.{Save, saved_by, with_save, last_complete}
use Rattle.mm_step.specs.Asked.{Asks, asked_of}
use Rattle.mm_session.specs.Session.{Script, Turn, session, turn, done}

-- what a command saved
abbrev pub save_in : Turn → Option Save
save_in t = saved_by (done t).answer

-- ## Theorems that are accepted

-- whether the theorem with this number was saved among the first n commands, the last time with a complete proof
unfoldable pub is_proved : Script → ℕ → ℕ → Bool
is_proved s zero theorem = false
is_proved s (suc n) theorem = last_complete theorem (save_in (turn s n)) (is_proved s n theorem)

abbrev pub AcceptsIn : Option (List ℕ) → ℕ → Type 0
AcceptsIn None theorem = ⊥
AcceptsIn (Some bytes) theorem = Accepts bytes (label_at bytes theorem)

-- A theorem whose last save was complete is accepted in the database.
abbrev pub SavedTheoremsHold : Type 0
SavedTheoremsHold = (s : Script) (n theorem : ℕ) → is_proved s n theorem ≡ true → AcceptsIn (session s n).state.database theorem

-- It is accepted in whatever WRITE SOURCE puts into the files then.
abbrev pub WrittenTheoremsHold : Type 0
WrittenTheoremsHold = (s : Script) (n theorem : ℕ) (name : List ℕ) (put : List ℕ × List ℕ) → is_proved s n theorem ≡ true → asked_of (turn s n).line ≡ Asks (WriteSource name) → (done (turn s n)).put ≡ Some put
    → Accepts put.1 (label_at put.1 theorem)

-- What WRITE SOURCE puts into the files is the database as it stands.
abbrev pub PutsTheDatabase : Type 0
PutsTheDatabase = (s : Script) (n : ℕ) (name : List ℕ) (put : List ℕ × List ℕ) → asked_of (turn s n).line ≡ Asks (WriteSource name) → (done (turn s n)).put ≡ Some put → (session s n).state.database ≡ Some put.1

-- ## Where a database comes from

-- A database changes by saves alone: what a command leaves is what it met, with what it saved.
abbrev pub OnlySavesChange : Type 0
OnlySavesChange = (s : Script) (n : ℕ) (bytes : List ℕ) → (session s n).state.database ≡ Some bytes → (session s (suc n)).state.database ≡ Some (with_save bytes (save_in (turn s n)))

-- saves, and one more after them
abbrev pub and_save : List splice.Save → Option Save → List splice.Save
and_save saves None = saves
and_save saves (Some save) = saves ++ record { theorem = save.theorem; text = save.text } ∷ []

-- what was saved by the n commands after the first m, in order
unfoldable pub saves_since : Script → ℕ → ℕ → List splice.Save
saves_since s m zero = []
saves_since s m (suc n) = and_save (saves_since s m n) (save_in (turn s (m + n)))

-- A database was read from a file by one of the first n commands. It is that file, overlaid with the last text that was
-- saved since of each theorem that was saved, and nothing else; so all else is as it was read.
pub record IsFromFile (s : Script) (n : ℕ) (bytes : List ℕ) : Type 0 where
  -- how many commands came before the one that read it, and how many since
  pub read : ℕ
  pub since : ℕ
  pub name : List ℕ
  pub file : List ℕ
  pub when : n ≡ suc read + since
  pub asked : asked_of (turn s read).line ≡ Asks (Read name)
  pub found : (turn s read).map name ≡ Some file
  pub agrees : AgreesWith file (last_text (saves_since s (suc read) since)) bytes

abbrev pub DatabasesAreFromFiles : Type 0
DatabasesAreFromFiles = (s : Script) (n : ℕ) (bytes : List ℕ) → (session s n).state.database ≡ Some bytes → IsFromFile s n bytes
