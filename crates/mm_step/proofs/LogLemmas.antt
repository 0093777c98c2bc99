-- Which lines open a log, and which close it.
use Rattle.std.proofs.Common.{◌≡◌, ℕ, Bool, true, false, not, is_err, List, [], ◌∷◌, Option, None, Some, Result, Ok, Err, refl, sym, subst}
use Rattle.mm_base.specs.Files.{Map}
use Rattle.mm_base.specs.declared.files.Files.{Ghosts as FilesOf}
use Rattle.mm_command.specs.Meanings as meaning
use Rattle.mm_command.specs.Meanings.{Meaning}
use Rattle.mm_shell.specs.Actions.{Plan, answer_in, without_files}
use Rattle.mm_shell.specs.Answers.{Answer, unless, given, does}
use Rattle.mm_shell.specs.Changes.{state_after}
use Rattle.mm_shell.specs.OpenProofs.{ProofState}
use Rattle.mm_shell.specs.declared.answer.Change.TheVariants.{OpensLog, ClosesLog}
use Rattle.mm_shell.specs.declared.report.Report.TheVariants.{LogOpened, LogClosed}
use Rattle.mm_shell.specs.declared.refusal.Refusal.{Refusal}
use Rattle.mm_shell.specs.declared.refusal.Refusal.TheVariants.{NoLog, LogKept}
use Rattle.mm_shell.specs.declared.state.State.{State}
use Rattle.mm_database_commands.specs.Commands.{verify, trace_back, usage, database_plan}
use Rattle.mm_setting_commands.specs.Commands.{setting_answer}
use Rattle.mm_edit_commands.specs.Edits.{edit_answer}
use Rattle.mm_proof_commands.specs.Commands.{exit_by, proof_answer}
use Rattle.mm_step.specs.Asked.{TooLong, Wrong, Asks, asked_of}
use Rattle.mm_step.specs.Effects.{Fine, Starved, Faulted, plan_in, command_plan, step_of, outcome, is_refused}
use Rattle.mm_step.specs.Groups.{group_of}
use Rattle.mm_step.specs.Laws.{LogsChange, effect_on}
use Rattle.mm_step.specs.Logs.{IsLogChange, log_change}
use Rattle.mm_step.specs.Ran.{HasRun}
use Rattle.mm_step.specs.declared.group.Group.{Group}
use Rattle.mm_step.specs.declared.group.Group.TheVariants as group
use Rattle.mm_step.specs.declared.reply.Reply.{Reply}

-- ## Answers that leave the log as it is

abbrev Keeps : State → Answer → Type 0
Keeps s a = (state_after a s).log_open ≡ s.log_open

rows_keep : (s : State) (rows : List (Bool × Refusal)) (a : Answer) → Keeps s a → Keeps s (unless rows a)
unfolding unless
rows_keep s [] a h = h
rows_keep s ((true, r) ∷ rows) a h = refl
rows_keep s ((false, r) ∷ rows) a h = rows_keep s rows a h

given_keep : {A : Type 0} (s : State) (found : Result A Refusal) (answer : A → Answer) → ((a : A) → Keeps s (answer a)) → Keeps s (given found answer)
unfolding given
given_keep s (Ok a) answer h = h a
given_keep s (Err r) answer h = refl

rows_plan : (s : State) (map : Map) (rows : List (Bool × Refusal)) (plan : Plan) → Keeps s (answer_in plan map) → Keeps s (answer_in (unless rows plan) map)
unfolding unless
rows_plan s map [] plan h = h
rows_plan s map ((true, r) ∷ rows) plan h = refl
rows_plan s map ((false, r) ∷ rows) plan h = rows_plan s map rows plan h

given_plan : {A : Type 0} (s : State) (map : Map) (found : Result A Refusal) (plan : A → Plan) → ((a : A) → Keeps s (answer_in (plan a) map)) → Keeps s (answer_in (given found plan) map)
unfolding given
given_plan s map (Ok a) plan h = h a
given_plan s map (Err r) plan h = refl

answered : (a : Answer) (map : Map) → answer_in (without_files a) map ≡ a
answered (Ok done) map = refl
answered (Err r) map = refl

answer_keeps : (s : State) (map : Map) (a : Answer) → Keeps s a → Keeps s (answer_in (without_files a) map)
answer_keeps s map a h = subst (Keeps s) (sym (answered a map)) h

-- ## The commands but for those two

abbrev IsOther : Meaning → Type 0
IsOther (meaning.OpenLog name) = ⊥
IsOther meaning.CloseLog = ⊥
IsOther _ = Unit {0}

database_keeps : (m : Meaning) (s : State) (map : Map) → Keeps s (answer_in (database_plan m s) map)
unfolding database_plan
database_keeps (meaning.Read name) s map = rows_plan s map _ _ (given_keep s _ _ (λ bytes. given_keep s _ _ (λ events. refl)))
database_keeps (meaning.VerifyProof pattern) s map = answer_keeps s map (verify s pattern) (given_keep s _ _ (λ bytes. given_keep s _ _ (λ ids. refl)))
database_keeps (meaning.ShowTraceBack label axioms) s map = answer_keeps s map (trace_back s label axioms) (given_keep s _ _ (λ bytes. given_keep s _ _ (λ id. refl)))
database_keeps (meaning.ShowUsage label recursive) s map = answer_keeps s map (usage s label recursive) (given_keep s _ _ (λ bytes. given_keep s _ _ (λ id. refl)))
database_keeps (meaning.WriteSource name) s map = given_plan s map _ _ (λ bytes. refl)
database_keeps _ s map = refl

setting_keeps : (m : Meaning) (s : State) → IsOther m → Keeps s (setting_answer m s)
unfolding setting_answer
setting_keeps (meaning.OpenLog name) s other = absurd other
setting_keeps meaning.CloseLog s other = absurd other
setting_keeps (meaning.SetUndo n) s other = refl
setting_keeps (meaning.SetTrials n) s other = refl
setting_keeps (meaning.SetBrackets on) s other = refl
setting_keeps (meaning.SetEmpty on) s other = rows_keep s _ _ refl
setting_keeps _ s other = refl

edit_keeps : (m : Meaning) (s : State) → Keeps s (edit_answer m s)
unfolding edit_answer
edit_keeps m s = rows_keep s _ _ (given_keep s _ _ (λ here. given_keep s _ _ (λ e. refl)))

exit_keeps : (s : State) (force : Bool) (p : Option ProofState) → Keeps s (exit_by s force p)
exit_keeps s force (Some p) = rows_keep s _ _ refl
exit_keeps s force None = rows_keep s _ _ refl

proof_keeps : (m : Meaning) (s : State) → Keeps s (proof_answer m s)
unfolding proof_answer
proof_keeps meaning.Nothing s = refl
proof_keeps (meaning.ShowNewProof only_unknown) s = given_keep s _ _ (λ here. refl)
proof_keeps (meaning.Prove label guarded_too) s = rows_keep s _ _ (given_keep s _ _ (λ bytes. given_keep s _ _ (λ id. rows_keep s _ _ (given_keep s _ _ (λ p. refl)))))
proof_keeps meaning.Undo s = given_keep s _ _ (λ p. rows_keep s _ _ refl)
proof_keeps meaning.Redo s = given_keep s _ _ (λ p. rows_keep s _ _ refl)
proof_keeps (meaning.Save normal compressed guarded_too) s =
    given_keep s _ _ (λ here. rows_keep s _ _ (given_keep s _ _ (λ some_unknown. given_keep s _ _ (λ new. refl))))
proof_keeps (meaning.Exit force) s = exit_keeps s force s.open_proof
proof_keeps _ s = refl

group_keeps : (g : Group) (m : Meaning) (s : State) (map : Map) → IsOther m → Keeps s (answer_in (plan_in g m s) map)
group_keeps group.Database m s map other = database_keeps m s map
group_keeps group.Settings m s map other = answer_keeps s map (setting_answer m s) (setting_keeps m s other)
group_keeps group.Edits m s map other = answer_keeps s map (edit_answer m s) (edit_keeps m s)
group_keeps group.Session m s map other = answer_keeps s map (proof_answer m s) (proof_keeps m s)

-- ## The law

Changes : Meaning → State → Answer → Type 0
Changes m s a = IsLogChange (log_change (is_err a) (Asks m)) s.log_open (state_after a s).log_open

opens : (name : List ℕ) (s : State) (b : Bool) → s.log_open ≡ b → Changes (meaning.OpenLog name) s (unless ((b, LogKept) ∷ []) (does LogOpened OpensLog))
unfolding unless Changes
opens name s true is = refl
opens name s false is = (is, refl)

closes : (s : State) (b : Bool) → s.log_open ≡ b → Changes meaning.CloseLog s (unless ((not b, NoLog) ∷ []) (does LogClosed ClosesLog))
unfolding unless Changes
closes s true is = (is, refl)
closes s false is = refl

other_stays : (m : Meaning) (s : State) (a : Answer) → IsOther m → Keeps s a → Changes m s a
unfolding Changes
other_stays m s (Err r) other keeps = keeps
other_stays (meaning.OpenLog name) s (Ok done) other keeps = absurd other
other_stays meaning.CloseLog s (Ok done) other keeps = absurd other
other_stays _ s (Ok done) other keeps = keeps

command_changes : (m : Meaning) (s : State) (map : Map) → Changes m s (answer_in (command_plan m s) map)
unfolding command_plan setting_answer
command_changes (meaning.OpenLog name) s map = subst (Changes (meaning.OpenLog name) s) (sym (answered (setting_answer (meaning.OpenLog name) s) map)) (opens name s s.log_open refl)
command_changes meaning.CloseLog s map = subst (Changes meaning.CloseLog s) (sym (answered (setting_answer meaning.CloseLog s) map)) (closes s s.log_open refl)
command_changes m s map = other_stays m s (answer_in (plan_in (group_of m) m s) map) tt (group_keeps (group_of m) m s map tt)

pub logs_change : LogsChange
unfolding Changes
logs_change TooLong s map Fine = refl
logs_change (Wrong fault) s map Fine = refl
logs_change (Asks m) s map Fine = command_changes m s map
logs_change asked s map Starved = refl
logs_change asked s map Faulted = refl

-- of a line that has been run
pub log_of_run : {F : Type 0} (fs : FilesOf F) (line : List ℕ) (s s' : State) (old new : F) (r : Reply) → HasRun fs (λ map. step_of s map line) s old r s' new → IsLogChange (log_change (is_refused r) (asked_of line)) s.log_open s'.log_open
unfolding step_of
log_of_run fs line s s' old new r h =
    subst (λ (b : Bool). IsLogChange (log_change b (asked_of line)) s.log_open s'.log_open) (sym h.meets.refused)
    (subst (λ (t : State). IsLogChange (log_change (effect_on (asked_of line) s h.map (outcome r)).refused (asked_of line)) s.log_open t.log_open) (sym h.meets.state) (logs_change (asked_of line) s h.map (outcome r)))
