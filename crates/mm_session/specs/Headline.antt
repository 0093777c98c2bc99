-- What holds of a session that has ended.
use Rattle.std.specs.Prelude.{◌≡◌, ◌+◌, ◌<◌, ◌≤◌, ◌==◌, ◌||◌, ℕ, zero, suc, nat_lt, if◌then◌else◌, Bool, true, false, IsTrue, List, [], ◌∷◌, ◌++◌, length, slice_index_or, Contains}
use Rattle.mm_base.specs.declared.files.Files.{Ghosts as FilesOf}
use Rattle.mm_base.specs.declared.sink.Sink.{Ghosts as SinkOf}
use Rattle.mm_base.specs.declared.source.Source.{Ghosts as SourceOf}
use Rattle.mm_base.specs.Outside.{RoseBy}
use Rattle.mm_base.specs.Sink.{Gains}
use Rattle.mm_lines.specs.Lines.{lines_of}
use Rattle.mm_session.specs.declared.session.SessionEnd.{SessionEnd}
use Rattle.mm_session.specs.declared.run.Run.{Run}
use Rattle.mm_shell.specs.declared.state.State.{State}
use Rattle.mm_step.specs.Effects.{with_puts}
use Rattle.mm_session.specs.Calls.{HasCause, FaultsExactly, Counted, CallsRise, CallsRiseExactly}
use Rattle.mm_session.specs.Session.{Script, Maps, maps_of, session, turn, prompt, echo}
use Rattle.mm_session.specs.Course.{Rise, AreApart, Follows, script, script_of}
use Rattle.mm_session.specs.Output.{GainsFirst}
use Rattle.mm_base.specs.Recorder.{HaveHeard}
use Rattle.mm_session.specs.Logs.{Event, Says, logs_of, bytes_of, first_events, said, said_next}
use Rattle.mm_session.specs.Hearing.{RecorderOf, Recording, Shows}
use Rattle.mm_session.specs.Taken.{Takes}

-- the numbers, and that of the last command, if there is one
abbrev pub with_last : List ℕ → ℕ → List ℕ
with_last numbers zero = numbers
with_last numbers (suc n) = numbers ++ suc n ∷ []

-- the numbers of the commands that starved: with status 5 the last command too
abbrev pub starved_by : SessionEnd → List ℕ
starved_by end = if end.status == 5 then with_last end.starved.items end.lines else end.starved.items

-- the numbers of the commands that met a file fault: with status 6 the last command too
abbrev pub faulted_by : SessionEnd → List ℕ
faulted_by end = if end.status == 6 then with_last end.faulted.items end.lines else end.faulted.items

-- the script of a session that has ended
abbrev pub script_by : List (List ℕ) → Maps → SessionEnd → Script
script_by commands maps end = script commands maps (starved_by end) (faulted_by end)

-- what stands on the screen before the reply to command n, counted from 1
abbrev pub before_reply : Script → ℕ → List ℕ
before_reply s zero = []
before_reply s (suc n) = (session s n).text ++ (prompt (session s n).state ++ echo (slice_index_or s.commands n []))

-- the transcript of n commands, the next prompt, and the echo of the next command, where so many were taken that it was
abbrev pub next_text : Script → ℕ → ℕ → List ℕ
next_text s taken n = (session s n).text ++ (prompt (session s n).state ++ (if nat_lt n taken then echo (slice_index_or s.commands n []) else []))

-- the status of a session that came to its end
abbrev pub end_status : Bool → ℕ
end_status refused = if refused then 1 else 0

-- what is written at the end: nothing after EXIT, and else the last prompt and the end of its line
abbrev pub last_text : State → List ℕ
last_text state = if state.ended then [] else prompt state ++ 10 ∷ []

-- The session has ended by EXIT, or every command was run; and the whole transcript was written.
pub record EndsWhole {K : Type 0} (sk : SinkOf K) (s : Script) (opened : K) (end : SessionEnd) (screen : K) : Type 0 where
  pub all : (session s end.lines).state.ended ≡ false → end.lines ≡ length s.commands
  pub status : end.status ≡ end_status (session s end.lines).refused
  pub transcript : Gains sk.tells sk.held opened screen ((session s end.lines).text ++ last_text (session s end.lines).state)

-- The screen has failed, with the first bytes of the transcript on it, where so many commands were taken.
abbrev pub EndsCut : {K : Type 0} (sk : SinkOf K) (s : Script) (taken : ℕ) (opened : K) (end : SessionEnd) (screen : K) → Type 0
EndsCut sk s taken opened end screen = GainsFirst sk.tells sk.held opened screen (length (before_reply s end.lines)) (next_text s taken end.lines)

-- The input gave no line, after the prompt.
abbrev pub EndsAsking : {K : Type 0} (sk : SinkOf K) (s : Script) (opened : K) (end : SessionEnd) (screen : K) → Type 0
EndsAsking sk s opened end screen = Gains sk.tells sk.held opened screen ((session s end.lines).text ++ prompt (session s end.lines).state)

-- The last command was given up after its echo; or, where none was run, there was no memory to begin with.
pub record GivesUp {K : Type 0} (sk : SinkOf K) (s : Script) (opened : K) (end : SessionEnd) (screen : K) : Type 0 where
  pub transcript : Gains sk.tells sk.held opened screen (before_reply s end.lines)

-- The commands were run as the machine runs them, over the maps that they met: over the files' own, where they tell it. Of
-- the commands so many were taken, the words and the lines that were found.
pub record Runs {F K : Type 0} (fs : FilesOf F) (sk : SinkOf K) (commands : List (List ℕ)) (taken : ℕ) (begun : F) (opened : K) (end : SessionEnd) (files : F) (screen : K) : Type 0 where
  pub maps : Maps
  pub told : IsTrue (fs.tells files) → maps ≡ maps_of (fs.lookup begun)
  pub which : Contains (0 ∷ 1 ∷ 3 ∷ 4 ∷ 5 ∷ 6 ∷ 7 ∷ []) end.status
  -- an EXIT that ends the session ends it so
  pub exits : (session (script_by commands maps end) end.lines).state.ended ≡ true → end.status < 2
  -- what was written to the screen
  pub whole : end.status < 2 → EndsWhole sk (script_by commands maps end) opened end screen
  pub asking : (end.status == 3 || end.status == 7) ≡ true → EndsAsking sk (script_by commands maps end) opened end screen
  pub cut : end.status ≡ 4 → EndsCut sk (script_by commands maps end) taken opened end screen
  pub given_up : (end.status == 5 || end.status == 6) ≡ true → GivesUp sk (script_by commands maps end) opened end screen
  pub starving : end.status ≡ 5 → 0 < end.lines → length end.starved.items ≡ 64
  pub faulting : end.status ≡ 6 → length end.faulted.items ≡ 64
  -- what was put into the files
  pub put : IsTrue (fs.tells files) → fs.lookup files ≡ with_puts (fs.lookup begun) (session (script_by commands maps end) end.lines).puts
  -- the numbers are those of commands that were run, in order, and none is in both lists
  pub starved : Rise 0 end.lines (starved_by end)
  pub faulted : Rise 0 end.lines (faulted_by end)
  pub apart : AreApart (starved_by end) (faulted_by end)
  -- why commands gave up; and exactly why they met file faults, where none starved
  pub causes : (k : ℕ) → k < end.lines → HasCause (turn (script_by commands maps end) k)
  pub files_failed : RoseBy (length (faulted_by end)) (fs.faults begun) (fs.faults files)
  pub files_held : faulted_by end ≡ [] → fs.faults files ≡ fs.faults begun
  -- the calls on the files
  pub calls : IsTrue (fs.tells_failing files) → CallsRise fs begun files (session (script_by commands maps end) end.lines)
  pub calls_exactly : IsTrue (fs.tells_failing files) → starved_by end ≡ [] → CallsRiseExactly fs begun files (session (script_by commands maps end) end.lines)
  pub faults_exactly : IsTrue (fs.tells_failing files) → starved_by end ≡ [] → (k : ℕ) → k < end.lines → FaultsExactly fs begun (turn (script_by commands maps end) k)

-- The session is the machine's over its commands, which are the words and the lines of the input.
pub record IsSession {F S K : Type 0} (fs : FilesOf F) (src : SourceOf S) (sk : SinkOf K) (words : List (List ℕ)) (begun : F) (was : S) (opened : K) (end : SessionEnd) (files : F) (input : S) (screen : K) : Type 0 where
  pub commands : List (List ℕ)
  -- what was taken of the input in the lines that were found
  pub used : List ℕ
  pub runs : Runs fs sk commands (length words + length (lines_of used)) begun opened end files screen
  pub takes : Takes src words was input commands used end.lines end.status (session (script_by commands runs.maps end) end.lines).state.ended

-- ## Logs

-- what was said before the reply to command n, counted from 1
abbrev pub said_before : Script → ℕ → List Event
said_before s zero = []
said_before s (suc n) = said_next s n

-- The screen has failed, and of the events after so many commands were the first ones.
pub record IsCut (s : Script) (taken n : ℕ) (events : List Event) : Type 0 where
  pub took : ℕ
  pub least : length (before_reply s n) ≤ took
  pub most : took ≤ length (next_text s taken n)
  pub is : events ≡ first_events took (said_next s n)

-- What a session has said that has ended, where so many commands were taken.
pub record HasSaid (s : Script) (taken : ℕ) (end : SessionEnd) (events : List Event) : Type 0 where
  pub whole : end.status < 2 → events ≡ said s end.lines ++ Says (last_text (session s end.lines).state) ∷ []
  pub asking : (end.status == 3 || end.status == 7) ≡ true → events ≡ said s end.lines ++ Says (prompt (session s end.lines).state) ∷ []
  pub cut : end.status ≡ 4 → IsCut s taken end.lines events
  pub given_up : (end.status == 5 || end.status == 6) ≡ true → events ≡ said_before s end.lines

-- The session is the machine's, and it said these events, as far as the screen took them. Each live recorder has gained
-- their logs, in the old order; or it has failed, its count has risen, it has gained a part, and it is lost.
pub record KeepsLogs {F S K R : Type 0} (fs : FilesOf F) (src : SourceOf S) (sk : SinkOf K) (rc : RecorderOf R) (words : List (List ℕ)) (begun : F) (was : S) (opened : K) (old : Recording R) (end : SessionEnd) (files : F) (input : S) (screen : K) (new : Recording R) : Type 0 where
  pub session_is : IsSession fs src sk words begun was opened end files input screen
  pub events : List Event
  pub said_is : HasSaid (script_by session_is.commands session_is.runs.maps end) (length words + length (lines_of session_is.used)) end events
  pub gained : Gains sk.tells sk.held opened screen (bytes_of events)
  pub heard : HaveHeard rc.tells rc.logs rc.faults (logs_of events) old.live old.lost new.live new.lost

-- ## On the way

-- The first commands have been run, their transcript is on the screen, and the recorders have heard it.
pub record Reached {F K R : Type 0} (fs : FilesOf F) (sk : SinkOf K) (rc : RecorderOf R) (commands : List (List ℕ)) (begun : F) (opened : K) (from : Recording R) (run : Run) (files : F) (screen : K) (to : Recording R) : Type 0 where
  pub maps : Maps
  pub follows : Follows fs (script_of commands maps run) begun run.lines run.state run.refused files
  pub counted : Counted fs (script_of commands maps run) begun run.lines files
  pub gained : Gains sk.tells sk.held opened screen (session (script_of commands maps run) run.lines).text
  pub shows : Shows sk rc opened from screen to (said (script_of commands maps run) run.lines)
