-- How far a session has come.
use Rattle.std.specs.Prelude.{◌≡◌, ◌<◌, ◌≤◌, ℕ, Bool, true, false, IsTrue, List, [], ◌∷◌, length}
use Rattle.mm_base.specs.declared.files.Files.{Ghosts as FilesOf}
use Rattle.mm_base.specs.Outside.{RoseBy}
use Rattle.mm_shell.specs.declared.state.State.{State}
use Rattle.mm_session.specs.declared.run.Run.{Run}
use Rattle.mm_step.specs.Effects.{with_puts}
use Rattle.mm_session.specs.Calls.{HasCause}
use Rattle.mm_session.specs.Session.{Script, Maps, maps_of, has, session, turn}

-- The numbers rise, from above the first bound up to the second.
abbrev pub Rise : ℕ → ℕ → List ℕ → Type 0
Rise low high [] = low ≤ high
Rise low high (x ∷ xs) = (low < x) × Rise x high xs

-- No number is in both lists.
abbrev pub AreApart : List ℕ → List ℕ → Type 0
AreApart xs ys = (k : ℕ) → has xs k ≡ true → has ys k ≡ false

abbrev pub script : List (List ℕ) → Maps → List ℕ → List ℕ → Script
script commands maps starved faulted = record { commands = commands; maps = maps; starved = starved; faulted = faulted }

-- the script of a run, over these maps
abbrev pub script_of : List (List ℕ) → Maps → Run → Script
script_of commands maps run = script commands maps run.starved.items run.faulted.items

-- A session stands, after n commands, where the machine stands.
pub record Follows {F : Type 0} (fs : FilesOf F) (s : Script) (begun : F) (n : ℕ) (state : State) (refused : Bool) (files : F) : Type 0 where
  pub told : IsTrue (fs.tells files) → IsTrue (fs.tells begun)
  pub same : IsTrue (fs.tells files) → s.maps ≡ maps_of (fs.lookup begun)
  pub state_is : state ≡ (session s n).state
  pub map : IsTrue (fs.tells files) → fs.lookup files ≡ with_puts (fs.lookup begun) (session s n).puts
  pub refused_is : refused ≡ (session s n).refused
  pub starved : Rise 0 n s.starved
  pub faulted : Rise 0 n s.faulted
  pub apart : AreApart s.starved s.faulted
  pub rose : RoseBy (length s.faulted) (fs.faults begun) (fs.faults files)
  pub held : s.faulted ≡ [] → fs.faults files ≡ fs.faults begun
  pub causes : (k : ℕ) → k < n → HasCause (turn s k)
