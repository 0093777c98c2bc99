-- What each command on settings and logs means: its refusals in order, and then what it does.
use Rattle.std.specs.Prelude.{ℕ, Bool, not, [], ◌∷◌, Err}
use Rattle.mm_command.specs.Meanings as meaning
use Rattle.mm_command.specs.Meanings.{Meaning}
use Rattle.mm_shell.specs.Answers.{Answer, unless, does, reports}
use Rattle.mm_shell.specs.declared.state.State.{State}
use Rattle.mm_shell.specs.declared.answer.Change.TheVariants.{SetsUndo, SetsTrials, SetsBrackets, OpensLog, ClosesLog}
use Rattle.mm_shell.specs.declared.refusal.Refusal.TheVariants.{NoLog, LogKept, NotBuilt}
use Rattle.mm_shell.specs.declared.report.Report.TheVariants.{LogOpened, LogClosed, UndoDepth, Trials, Brackets, NoEmptyStrings}

-- ## SET UNDO

abbrev pub set_undo : ℕ → Answer
set_undo n = does (UndoDepth n) (SetsUndo n)

-- ## SET UNIFICATION_TIMEOUT

abbrev pub set_trials : ℕ → Answer
set_trials n = does (Trials n) (SetsTrials n)

-- ## SET BRACKETS

abbrev pub set_brackets : Bool → Answer
set_brackets on = does (Brackets on) (SetsBrackets on)

-- ## SET EMPTY_SUBSTITUTION

-- ON is not built
abbrev pub set_empty : Bool → Answer
set_empty on = unless ((on, NotBuilt) ∷ []) (reports NoEmptyStrings)

-- ## OPEN LOG

abbrev pub open_log : State → Answer
open_log s = unless ((s.log_open, LogKept) ∷ []) (does LogOpened OpensLog)

-- ## CLOSE LOG

abbrev pub close_log : State → Answer
close_log s = unless ((not s.log_open, NoLog) ∷ []) (does LogClosed ClosesLog)

-- ## All of them

unfoldable pub setting_answer : Meaning → State → Answer
setting_answer (meaning.SetUndo n) s = set_undo n
setting_answer (meaning.SetTrials n) s = set_trials n
setting_answer (meaning.SetBrackets on) s = set_brackets on
setting_answer (meaning.SetEmpty on) s = set_empty on
setting_answer (meaning.OpenLog name) s = open_log s
setting_answer meaning.CloseLog s = close_log s
setting_answer _ s = Err NotBuilt
