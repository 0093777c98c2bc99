-- One turn of a session: the prompt, the next command, its echo and its reply.
use Rattle.std.specs.Prelude.{◌≡◌, ◌+◌, ◌<◌, ◌≤◌, ◌==◌, ℕ, Bool, true, false, List, [], ◌∷◌, ◌++◌, length, slice_index_or}
use Rattle.mm_base.specs.declared.files.Files.{Ghosts as FilesOf}
use Rattle.mm_base.specs.declared.sink.Sink.{Ghosts as SinkOf}
use Rattle.mm_base.specs.declared.source.Source.{Ghosts as SourceOf}
use Rattle.mm_base.specs.Sink.{Gains}
use Rattle.mm_session.specs.declared.commands.Commands.{Commands}
use Rattle.mm_session.specs.declared.run.Run.{Run}
use Rattle.mm_session.specs.declared.session.SessionEnd.{SessionEnd}
use Rattle.mm_session.specs.declared.turn.Turn.{Turn}
use Rattle.mm_session.specs.declared.turn.Turn.TheVariants.{GoesOn, Ended}
use Rattle.mm_lines.specs.Lines.{lines_of}
use Rattle.mm_session.specs.Output.{SaysLess}
use Rattle.mm_session.specs.Logs.{Event, Says}
use Rattle.mm_session.specs.Hearing.{RecorderOf, Recording, Hears, Shows}
use Rattle.mm_session.specs.Session.{session, prompt}
use Rattle.mm_session.specs.Coming.{Came, room}
use Rattle.mm_session.specs.Advance.{IsLine}
use Rattle.mm_session.specs.Headline.{Reached, Runs, IsSession, HasSaid, script_by, end_status}

-- the end of a run with a status
abbrev pub ended_run : ℕ → Run → SessionEnd
ended_run status run = record { status = status; lines = run.lines; starved = run.starved; faulted = run.faulted }

abbrev pub has_status : ℕ → Turn → Bool
has_status n GoesOn = false
has_status n (Ended status) = status == n

-- The commands were run, and this was said.
pub record Logged {F K R : Type 0} (fs : FilesOf F) (sk : SinkOf K) (rc : RecorderOf R) (commands : List (List ℕ)) (taken : ℕ) (begun : F) (opened : K) (from : Recording R) (end : SessionEnd) (files : F) (screen : K) (to : Recording R) : Type 0 where
  pub runs : Runs fs sk commands taken begun opened end files screen
  pub events : List Event
  pub said_is : HasSaid (script_by commands runs.maps end) taken end events
  pub shows : Shows sk rc opened from screen to events

-- A session has ended, and this was said.
pub record SaysAll {F S K R : Type 0} (fs : FilesOf F) (src : SourceOf S) (sk : SinkOf K) (rc : RecorderOf R) (words : List (List ℕ)) (begun : F) (was : S) (opened : K) (from : Recording R) (end : SessionEnd) (files : F) (input : S) (screen : K) (to : Recording R) : Type 0 where
  pub session_is : IsSession fs src sk words begun was opened end files input screen
  pub events : List Event
  pub said_is : HasSaid (script_by session_is.commands session_is.runs.maps end) (length words + length (lines_of session_is.used)) end events
  pub shows : Shows sk rc opened from screen to events

-- The prompt was written after the transcript of the commands so far.
pub record Prompted {F K R : Type 0} (fs : FilesOf F) (sk : SinkOf K) (rc : RecorderOf R) (commands : List (List ℕ)) (begun : F) (opened : K) (from : Recording R) (run : Run) (files : F) (screen : K) (to : Recording R) : Type 0 where
  pub before : K
  pub heard_before : Recording R
  pub reached : Reached fs sk rc commands begun opened from run files before heard_before
  pub prompted : Gains sk.tells sk.held before screen (prompt run.state)
  pub heard : Hears rc heard_before to (Says (prompt run.state) ∷ [])

abbrev pub is_going : Turn → Bool
is_going GoesOn = true
is_going (Ended status) = false

-- The next command is this and was taken, in a session that goes on.
pub record HasNext (commands : List (List ℕ)) (taken : ℕ) (run : Run) (line whole : List ℕ) : Type 0 where
  pub is_line : IsLine line whole
  pub at : slice_index_or commands run.lines [] ≡ whole
  pub more : run.lines < taken
  pub open_still : run.state.ended ≡ false

-- The run has ended with this status; by EXIT or at the end of the input it stands as the machine does.
pub record RunsTo {F K R : Type 0} (fs : FilesOf F) (sk : SinkOf K) (rc : RecorderOf R) (commands : List (List ℕ)) (taken : ℕ) (begun : F) (opened : K) (from : Recording R) (status : ℕ) (run : Run) (files : F) (screen : K) (to : Recording R) : Type 0 where
  pub logged : Logged fs sk rc commands taken begun opened from (ended_run status run) files screen to
  pub state : status < 2 → (session (script_by commands logged.runs.maps (ended_run status run)) run.lines).state ≡ run.state

-- How the answer to a command has ended the session: the screen has failed, or the command was the 65th that was given up,
-- or it was EXIT.
pub data AnswerEnds (status : ℕ) (old new : Run) : Type 0 where
  Unechoed : status ≡ 4 → new ≡ old → AnswerEnds status old new
  Untold : status ≡ 4 → new.lines ≡ old.lines + 1 → AnswerEnds status old new
  GivenUp : 5 ≤ status → status ≤ 6 → new.lines ≡ old.lines + 1 → AnswerEnds status old new
  Exits : status ≡ end_status new.refused → new.state.ended ≡ true → new.lines ≡ old.lines + 1 → AnswerEnds status old new

-- what has become of the session after a command
pub record Answered {F K R : Type 0} (fs : FilesOf F) (sk : SinkOf K) (rc : RecorderOf R) (commands : List (List ℕ)) (begun : F) (opened : K) (from : Recording R) (old new : Run) (files : F) (screen : K) (to : Recording R) : Type 0 where
  pub reached : Reached fs sk rc commands begun opened from new files screen to
  pub one_more : new.lines ≡ old.lines + 1
  pub open_still : new.state.ended ≡ false

abbrev pub Answers : {F K R : Type 0} (fs : FilesOf F) (sk : SinkOf K) (rc : RecorderOf R) (commands : List (List ℕ)) (taken : ℕ) (begun : F) (opened : K) (from : Recording R) (old : Run) → Turn → Run → F → K → Recording R → Type 0
Answers fs sk rc commands taken begun opened from old GoesOn new files screen to = Answered fs sk rc commands begun opened from old new files screen to
Answers fs sk rc commands taken begun opened from old (Ended status) new files screen to =
    AnswerEnds status old new × RunsTo fs sk rc commands taken begun opened from status new files screen to

-- The end of the last prompt's line was written, or the screen has failed at it.
pub data Finished {K R : Type 0} (sk : SinkOf K) (rc : RecorderOf R) (refused : Bool) (old : K) (from : Recording R) (status : ℕ) (new : K) (to : Recording R) : Type 0 where
  Unwritten : status ≡ 4 → SaysLess sk.tells sk.held rc old from new to [] (10 ∷ []) → Finished sk rc refused old from status new to
  Written : status ≡ end_status refused → Gains sk.tells sk.held old new (10 ∷ []) → Hears rc from to (Says (10 ∷ []) ∷ []) → Finished sk rc refused old from status new to

abbrev pub Finishes : {K R : Type 0} (sk : SinkOf K) (rc : RecorderOf R) (refused : Bool) (old : K) (from : Recording R) → Turn → K → Recording R → Type 0
Finishes sk rc refused old from GoesOn new to = ⊥
Finishes sk rc refused old from (Ended status) new to = Finished sk rc refused old from status new to

-- A session stands after the commands that have come, whatever may come.
pub record Stands {F S K R : Type 0} (fs : FilesOf F) (src : SourceOf S) (sk : SinkOf K) (rc : RecorderOf R) (words : List (List ℕ)) (begun : F) (was : S) (opened : K) (from : Recording R) (commands : Commands) (run : Run) (files : F) (input : S) (screen : K) (to : Recording R) : Type 0 where
  pub met : List (List ℕ)
  pub came : Came src words was met commands input
  pub reached : (later : List (List ℕ)) → Reached fs sk rc (met ++ later) begun opened from run files screen to
  pub lines : run.lines ≡ length met
  pub open_still : run.state.ended ≡ false

-- what has become of a session after a turn
abbrev pub Turns : {F S K R : Type 0} (fs : FilesOf F) (src : SourceOf S) (sk : SinkOf K) (rc : RecorderOf R) (words : List (List ℕ)) (begun : F) (was : S) (opened : K) (from : Recording R) (before : Commands) → Turn → Commands → Run → F → S → K → Recording R → Type 0
Turns fs src sk rc words begun was opened from before GoesOn commands run files input screen to =
    Stands fs src sk rc words begun was opened from commands run files input screen to × (room commands < room before)
Turns fs src sk rc words begun was opened from before (Ended status) commands run files input screen to =
    SaysAll fs src sk rc words begun was opened from (ended_run status run) files input screen to
