-- The logs of a session, by what it says.
use Rattle.std.specs.Prelude.{◌-◌, ℕ, zero, suc, List, [], ◌∷◌, ◌++◌, length, take, nat_le, if◌then◌else◌, slice_index_or}
use Rattle.mm_base.specs.Recorder.{Log}
use Rattle.mm_shell.specs.declared.state.State.{State}
use Rattle.mm_step.specs.Asked.{asked_of}
use Rattle.mm_step.specs.Logs as change
use Rattle.mm_step.specs.Logs.{LogChange, log_change}
use Rattle.mm_session.specs.Session.{Script, Turn, session, turn, done, prompt, echo}

-- A piece of the transcript is said; or a log of this name is opened; or the log is closed.
pub data Event : Type 0 where
  Says : List ℕ → Event
  Opens : List ℕ → Event
  Closes : Event

-- ## The logs of events

-- what is said until a log is closed, or the next one opened
abbrev pub until_next : List Event → List ℕ
until_next [] = []
until_next (Says piece ∷ events) = piece ++ until_next events
until_next (e ∷ events) = []

-- one for each that is opened: its name, and what is said until it is closed
abbrev pub logs_of : List Event → List Log
logs_of [] = []
logs_of (Opens name ∷ events) = record { name = name; bytes = until_next events } ∷ logs_of events
logs_of (e ∷ events) = logs_of events

-- all that is said
abbrev pub bytes_of : List Event → List ℕ
bytes_of [] = []
bytes_of (Says piece ∷ events) = piece ++ bytes_of events
bytes_of (e ∷ events) = bytes_of events

-- the first events, of what is said so many bytes
abbrev pub first_events : ℕ → List Event → List Event
first_events n [] = []
first_events n (Says piece ∷ events) = if nat_le (length piece) n then Says piece ∷ first_events (n - length piece) events else Says (take n piece) ∷ []
first_events n (e ∷ events) = e ∷ first_events n events

-- ## The events of a session

-- A log is closed before the text of the command that closes it, and opened after the text of the one that opens it.
abbrev pub before_text : LogChange → List Event
before_text change.Closes = Closes ∷ []
before_text change = []

abbrev pub after_text : LogChange → List Event
after_text (change.Opens name) = Opens name ∷ []
after_text change = []

-- the prompt, the echo of a line, and its text
abbrev pub said_by : State → List ℕ → LogChange → List ℕ → List Event
said_by state line change text = Says (prompt state) ∷ (Says (echo line) ∷ (before_text change ++ (Says text ∷ after_text change)))

-- what a command says
abbrev pub said_in : Turn → List Event
said_in t = said_by t.machine.state t.line (log_change (done t).refused (asked_of t.line)) (done t).text

-- what the first n commands say
unfoldable pub said : Script → ℕ → List Event
said s zero = []
said s (suc n) = said s n ++ said_in (turn s n)

-- and then the next prompt, and the echo of the next command
abbrev pub said_next : Script → ℕ → List Event
said_next s n = said s n ++ (Says (prompt (session s n).state) ∷ (Says (echo (slice_index_or s.commands n [])) ∷ []))
