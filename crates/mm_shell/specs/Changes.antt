-- What a change makes of the state.
use Rattle.std.specs.Prelude.{ℕ, List, Bool, true, false, Option, Some, None, Ok, Err}
use Rattle.mm_proof.specs.Decoding.{proof_of}
use Rattle.mm_splice.specs.Splicing.{spliced}
use Rattle.mm_unify.specs.declared.listing.Settings.{Settings}
use Rattle.mm_shell.specs.OpenProofs.{ProofState, after_redo, after_save, after_undo, with_depth}
use Rattle.mm_shell.specs.Answers.{Answer}
use Rattle.mm_shell.specs.declared.state.State.{State}
use Rattle.mm_shell.specs.declared.state.TheConstants.{FIRST_TRIALS, FIRST_BRACKETS, FIRST_UNDO_DEPTH}
use Rattle.mm_shell.specs.declared.answer.Saving.{Saving}
use Rattle.mm_shell.specs.declared.answer.Change.{Change}
use Rattle.mm_shell.specs.declared.answer.Change.TheVariants.{Stays, Loads, Opens, Saves, Undoes, Redoes, SetsUndo, SetsTrials, SetsBrackets, Writes, Leaves, OpensLog, ClosesLog, Ends}

-- the settings with which a session begins
abbrev pub first_settings : Settings
first_settings = record { rule = record { brackets = FIRST_BRACKETS }; trials = FIRST_TRIALS }

-- the state in which a session begins
abbrev pub new_state : State
new_state = record { database = None; open_proof = None; settings = first_settings; undo_depth = FIRST_UNDO_DEPTH; unwritten = false; log_open = false; ended = false }

-- the open proof after this, if there is one
abbrev pub proof_after : (ProofState → ProofState) → Option ProofState → Option ProofState
proof_after f (Some p) = Some (f p)
proof_after f None = None

abbrev pub apply_change : Change → State → State
apply_change Stays s = s
apply_change (Loads bytes) s = record s { database = Some bytes }
apply_change (Opens p) s = record s { open_proof = Some p }
apply_change (Saves x) s = record s { database = Some x.database; open_proof = proof_after after_save s.open_proof; unwritten = true }
apply_change Undoes s = record s { open_proof = proof_after after_undo s.open_proof }
apply_change Redoes s = record s { open_proof = proof_after after_redo s.open_proof }
apply_change (SetsUndo n) s = record s { open_proof = proof_after (with_depth n) s.open_proof; undo_depth = n }
apply_change (SetsTrials n) s = record s { settings = record s.settings { trials = n } }
apply_change (SetsBrackets on) s = record s { settings = record s.settings { rule = record s.settings.rule { brackets = on } } }
apply_change Writes s = record s { unwritten = false }
apply_change Leaves s = record s { open_proof = None }
apply_change OpensLog s = record s { log_open = true }
apply_change ClosesLog s = record s { log_open = false }
apply_change Ends s = record s { ended = true }

-- a command that is refused changes nothing
abbrev pub state_after : Answer → State → State
state_after (Ok done) s = apply_change done.change s
state_after (Err refusal) s = s
