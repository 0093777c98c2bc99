-- The answers of the commands on settings and logs fit each state.
use Rattle.std.proofs.Common.{Bool}
use Rattle.mm_command.specs.Meanings as meaning
use Rattle.mm_command.specs.Meanings.{Meaning}
use Rattle.mm_shell.specs.Actions.{Nowhere}
use Rattle.mm_shell.specs.Fitting.{Fits}
use Rattle.mm_shell.specs.declared.state.State.{State}
use Rattle.mm_shell.specs.declared.refusal.Refusal.TheVariants.{NotBuilt}
use Rattle.mm_shell.proofs.FitLemmas.{rows_fit, done_fits, refused_fits}
use Rattle.mm_setting_commands.specs.Commands.{set_empty, open_log, close_log, setting_answer}

set_empty_fits : (on : Bool) (s : State) → Fits Nowhere s (set_empty on)
set_empty_fits on s = rows_fit Nowhere s _ _ (done_fits Nowhere s _ tt tt tt)

open_log_fits : (s : State) → Fits Nowhere s (open_log s)
open_log_fits s = rows_fit Nowhere s _ _ (done_fits Nowhere s _ tt tt tt)

close_log_fits : (s : State) → Fits Nowhere s (close_log s)
close_log_fits s = rows_fit Nowhere s _ _ (done_fits Nowhere s _ tt tt tt)

pub setting_fits : (m : Meaning) (s : State) → Fits Nowhere s (setting_answer m s)
unfolding setting_answer
setting_fits (meaning.SetUndo n) s = done_fits Nowhere s _ tt tt tt
setting_fits (meaning.SetTrials n) s = done_fits Nowhere s _ tt tt tt
setting_fits (meaning.SetBrackets on) s = done_fits Nowhere s _ tt tt tt
setting_fits (meaning.SetEmpty on) s = set_empty_fits on s
setting_fits (meaning.OpenLog name) s = open_log_fits s
setting_fits meaning.CloseLog s = close_log_fits s
setting_fits _ s = refused_fits Nowhere s NotBuilt
