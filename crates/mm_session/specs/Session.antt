-- The session machine over a list of commands.
use Rattle.std.specs.Prelude.{◌||◌, ◌==◌, ◌+◌, ℕ, suc, zero, Bool, false, List, [], ◌∷◌, ◌++◌, Option, None, Some, if◌then◌else◌, nat_le, length, codes, slice_index_or}
use Rattle.std.specs.List.{list_any}
use Rattle.mm_base.specs.Files.{Map}
use Rattle.mm_command.specs.Limits.{most_line}
use Rattle.mm_shell.specs.Changes.{new_state}
use Rattle.mm_shell.specs.OpenProofs.{ProofState}
use Rattle.mm_shell.specs.declared.state.State.{State}
use Rattle.mm_step.specs.Effects.{Effect, Outcome, Fine, Starved, Faulted, ended, with_puts, add_put}
use Rattle.mm_step.specs.Effects.{step_of}

abbrev pub prompt_by : Option ProofState → List ℕ
prompt_by None = codes "MM> "
prompt_by (Some p) = codes "MM-PA> "

-- the prompt tells whether a proof is in hand
abbrev pub prompt : State → List ℕ
prompt state = prompt_by state.open_proof

-- a line as it is echoed: one of more than 65,536 bytes as empty
abbrev pub shown : List ℕ → List ℕ
shown line = if nat_le (length line) most_line then line else []

-- the echo of a line
abbrev pub echo : List ℕ → List ℕ
echo line = shown line ++ 10 ∷ []

-- the map that a command meets, by how many commands came before it and what they have put
abbrev pub Maps : Type 0
Maps = ℕ → List (List ℕ × List ℕ) → Map

-- those of files that have this map at the start
abbrev pub maps_of : Map → Maps
maps_of map n puts = with_puts map puts

-- what a session is given: the commands, the maps that they meet, and the numbers of those that starve or meet a file fault
pub record Script : Type 0 where
  pub commands : List (List ℕ)
  pub maps : Maps
  pub starved : List ℕ
  pub faulted : List ℕ

abbrev pub has : List ℕ → ℕ → Bool
has numbers n = list_any (λ m. m == n) numbers

-- how command n ends, counted from 1
abbrev pub outcome_of : List ℕ → List ℕ → ℕ → Outcome
outcome_of starved faulted n = if has starved n then Starved else if has faulted n then Faulted else Fine

-- the session after some commands
pub record Machine : Type 0 where
  pub state : State
  -- the pairs of name and bytes that were put, the last first
  pub puts : List (List ℕ × List ℕ)
  -- the transcript: each command's prompt, echo and text
  pub text : List ℕ
  -- whether a command was refused
  pub refused : Bool
  -- how many commands reach the files and didn't starve: each of these makes one call
  pub calls : ℕ
  -- how many reach the files and starved: each of these makes one call or none
  pub starved_calls : ℕ

-- a command in its session
pub record Turn : Type 0 where
  -- the session before it
  pub machine : Machine
  -- the files that it meets
  pub map : Map
  pub line : List ℕ
  pub outcome : Outcome

-- what the command does where it ends as it should
abbrev pub effect_of : Turn → Effect
effect_of t = step_of t.machine.state t.map t.line

-- the calls of a command that ends so, by whether it reaches the files, where it didn't starve
abbrev pub calls_of : Outcome → Bool → ℕ
calls_of Starved reaches = 0
calls_of outcome reaches = if reaches then 1 else 0

-- and where it starved
abbrev pub starved_calls_of : Outcome → Bool → ℕ
starved_calls_of Starved reaches = if reaches then 1 else 0
starved_calls_of outcome reaches = 0

-- what a command did, however it ended
abbrev pub done : Turn → Effect
done t = ended t.outcome t.machine.state (effect_of t)

-- the session after a command that ended so and did this
abbrev pub after_effect : Machine → List ℕ → Outcome → Effect → Machine
after_effect m line outcome effect = record {
  state = effect.state;
  puts = add_put effect.put m.puts;
  text = m.text ++ ((prompt m.state ++ echo line) ++ effect.text);
  refused = m.refused || effect.refused;
  calls = m.calls + calls_of outcome effect.reaches_files;
  starved_calls = m.starved_calls + starved_calls_of outcome effect.reaches_files;
}

-- the session after a command
abbrev pub after : Turn → Machine
after t = after_effect t.machine t.line t.outcome (done t)

abbrev pub start : Machine
start = record { state = new_state; puts = []; text = []; refused = false; calls = 0; starved_calls = 0 }

-- the command after n others, in this session
abbrev pub turn_in : Machine → Script → ℕ → Turn
turn_in m s n = record { machine = m; map = s.maps n m.puts; line = slice_index_or s.commands n []; outcome = outcome_of s.starved s.faulted (suc n) }

-- the session after the first n commands
unfoldable pub session : Script → ℕ → Machine
session s zero = start
session s (suc n) = after (turn_in (session s n) s n)

-- the command after n others
abbrev pub turn : Script → ℕ → Turn
turn s n = turn_in (session s n) s n
