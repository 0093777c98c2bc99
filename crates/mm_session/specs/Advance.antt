-- What the next command of a session does.
use Rattle.std.specs.Prelude.{◌≡◌, ℕ, suc, Bool, true, false, List, [], ◌∷◌, ◌++◌, length, slice_index_or}
use Rattle.mm_base.specs.declared.files.Files.{Ghosts as FilesOf}
use Rattle.mm_shell.specs.declared.state.State.{State}
use Rattle.mm_step.specs.declared.reply.Reply.{Reply}
use Rattle.mm_step.specs.declared.reply.Reply.TheVariants as reply
use Rattle.mm_session.specs.declared.run.Run.{Run}
use Rattle.mm_session.specs.declared.advance.Progress.{Progress}
use Rattle.mm_session.specs.declared.advance.Progress.TheVariants as progress
use Rattle.mm_step.specs.Asked.{asked_of}
use Rattle.mm_step.specs.Effects.{Fine, is_refused, outcome, text_of}
use Rattle.mm_step.specs.Logs.{log_change}
use Rattle.mm_session.specs.Logs.{said, said_by}
use Rattle.mm_session.specs.Calls.{Counted}
use Rattle.mm_session.specs.Session.{Script, Maps, session, prompt, shown, echo}
use Rattle.mm_session.specs.Course.{Follows, script, script_of}

-- What is handed on of a line asks what the whole line asks, and shows what it shows.
pub record IsLine (line whole : List ℕ) : Type 0 where
  pub asks : asked_of line ≡ asked_of whole
  pub shows : shown line ≡ shown whole

-- One more command has been run after n others, with this reply.
pub record GoesOn {F : Type 0} (fs : FilesOf F) (begun : F) (n : ℕ) (line : List ℕ) (reply : Reply) (s : Script) (state : State) (before : F) (s' : Script) (state' : State) (refused' : Bool) (files : F) : Type 0 where
  pub follows : Follows fs s' begun (suc n) state' refused' files
  -- what came before is as it was
  pub earlier : session s' n ≡ session s n
  pub said_earlier : said s' n ≡ said s n
  pub text : (session s' (suc n)).text ≡ (session s n).text ++ ((prompt state ++ echo line) ++ text_of reply)
  pub said_is : said s' (suc n) ≡ said s n ++ said_by state line (log_change (is_refused reply) (asked_of line)) (text_of reply)
  pub counted : Counted fs s begun n before → Counted fs s' begun (suc n) files
  -- a command that has ended the session did so without a text
  pub ends : state'.ended ≡ true → (outcome reply ≡ Fine) × (text_of reply ≡ [])

-- The run has gone on, over maps of which the last is what the command met.
pub record RunsOn {F : Type 0} (fs : FilesOf F) (commands : List (List ℕ)) (maps : Maps) (begun : F) (old : Run) (before : F) (line : List ℕ) (reply : Reply) (starved faulted : List ℕ) (state : State) (refused : Bool) (files : F) : Type 0 where
  pub maps' : Maps
  pub goes : GoesOn fs begun old.lines line reply (script_of commands maps old) old.state before (script commands maps' starved faulted) state refused files

-- whether it was refused, or gave up
abbrev pub is_refused_by : Progress → Bool
is_refused_by (progress.Replied r) = is_refused r
is_refused_by progress.Starved = true
is_refused_by progress.Faulted = true

-- The command has been run. Where it gives up as the 65th of its kind, its number isn't kept in the list, which has 64.
abbrev pub AdvancesTo : {F : Type 0} (fs : FilesOf F) (commands : List (List ℕ)) (maps : Maps) (begun : F) (old : Run) (before : F) (line : List ℕ) → Progress → Run → F → Type 0
AdvancesTo fs commands maps begun old before line (progress.Replied r) new files =
    RunsOn fs commands maps begun old before line r new.starved.items new.faulted.items new.state new.refused files
AdvancesTo fs commands maps begun old before line progress.Starved new files =
    RunsOn fs commands maps begun old before line reply.Starved (new.starved.items ++ new.lines ∷ []) new.faulted.items new.state true files × (length new.starved.items ≡ 64)
AdvancesTo fs commands maps begun old before line progress.Faulted new files =
    RunsOn fs commands maps begun old before line reply.Faulted new.starved.items (new.faulted.items ++ new.lines ∷ []) new.state true files × (length new.faulted.items ≡ 64)

-- Where a run has followed the machine up to this line, it goes on so.
abbrev pub Advances : {F : Type 0} (fs : FilesOf F) (commands : List (List ℕ)) (maps : Maps) (begun : F) (old : Run) (before : F) (line : List ℕ) → Progress → Run → F → Type 0
Advances fs commands maps begun old before line result new files =
    Follows fs (script_of commands maps old) begun old.lines old.state old.refused before → slice_index_or commands old.lines [] ≡ line → old.state.ended ≡ false → AdvancesTo fs commands maps begun old before line result new files
