-- The laws over every line, by those of each change.
use Rattle.std.proofs.Common.{◌≡◌, ℕ, true, false, is_err, List, Option, None, Some, Ok, Err, refl, sym, ◌∙◌, ap, subst}
use Rattle.mm_base.specs.Files.{Map}
use Rattle.mm_command.specs.Meanings.{Meaning}
use Rattle.mm_shell.specs.Actions.{Origin, File, Does, Fetches, Puts, Plan, answer_in, origin_in, put_by}
use Rattle.mm_shell.specs.Answers.{Answer}
use Rattle.mm_shell.specs.Changes.{state_after}
use Rattle.mm_shell.specs.Fitting.{Fits, MadeIn, PlanFits}
use Rattle.mm_shell.specs.Sound.{IsSound}
use Rattle.mm_shell.specs.declared.state.State.{State}
use Rattle.mm_shell.specs.declared.refusal.Refusal.{Refusal}
use Rattle.mm_shell.specs.declared.refusal.Refusal.TheVariants.{LineTooLong, WrongWord}
use Rattle.mm_shell.proofs.FitLemmas.{answer_plan}
use Rattle.mm_shell.proofs.FrameLemmas as frame
use Rattle.mm_database_commands.specs.Commands.{database_plan}
use Rattle.mm_database_commands.proofs.DatabaseFits.{IsFetching, database_fits, database_origin, no_origin, write_puts}
use Rattle.mm_setting_commands.specs.Commands.{setting_answer}
use Rattle.mm_setting_commands.proofs.SettingFits.{setting_fits}
use Rattle.mm_edit_commands.specs.Edits.{edit_answer}
use Rattle.mm_edit_commands.proofs.EditFits.{edit_fits}
use Rattle.mm_proof_commands.specs.Commands.{proof_answer}
use Rattle.mm_proof_commands.proofs.ProofFits.{proof_fits}
use Rattle.mm_step.specs.Asked.{Asked, TooLong, Wrong, Asks}
use Rattle.mm_step.specs.Effects.{Fine, Starved, Faulted, plan_in, command_plan, plan_of}
use Rattle.mm_step.specs.Groups.{group_of}
use Rattle.mm_step.specs.Laws.{StaysSound, RefusedChangesNothing, OnlySavesChange, SavedTheoremsHold, ComesFrom, ByReading, DatabasesComeByReading, PutsTheDatabase, EndsSilently, ReportsHold, SavesCanBeMade}
use Rattle.mm_step.specs.declared.group.Group.{Group}
use Rattle.mm_step.specs.declared.group.Group.TheVariants as group

-- ## Every plan fits a sound state

refused_fits : (s : State) (r : Refusal) → PlanFits s (Err r)
unfolding Fits
refused_fits s r = λ map. tt

group_fits : (g : Group) (m : Meaning) (s : State) → IsSound s → PlanFits s (plan_in g m s)
group_fits group.Database m s sound = database_fits m s
group_fits group.Settings m s sound = answer_plan s (setting_answer m s) (setting_fits m s)
group_fits group.Edits m s sound = answer_plan s (edit_answer m s) (edit_fits m s sound)
group_fits group.Session m s sound = answer_plan s (proof_answer m s) (proof_fits m s sound)

asked_fits : (asked : Asked) (s : State) → IsSound s → PlanFits s (plan_of asked s)
unfolding command_plan
asked_fits TooLong s sound = refused_fits s LineTooLong
asked_fits (Wrong fault) s sound = refused_fits s (WrongWord fault)
asked_fits (Asks m) s sound = group_fits (group_of m) m s sound

-- ## The laws

pub stays_sound : StaysSound
stays_sound asked s map Fine sound = frame.fitting_stays_sound (origin_in (plan_of asked s) map) s (answer_in (plan_of asked s) map) sound (asked_fits asked s sound map)
stays_sound asked s map Starved sound = sound
stays_sound asked s map Faulted sound = sound

answer_refused : (a : Answer) (s : State) → is_err a ≡ true → state_after a s ≡ s
answer_refused (Ok done) s e = let no : false ≡ true = e in cc
answer_refused (Err r) s e = refl

plan_refused : (plan : Plan) (map : Map) → is_err (answer_in plan map) ≡ true → put_by plan ≡ None
plan_refused (Ok (Does done)) map e = refl
plan_refused (Ok (Fetches name answer)) map e = refl
plan_refused (Ok (Puts name bytes done)) map e = let no : false ≡ true = e in cc
plan_refused (Err r) map e = refl

pub refused_changes_nothing : RefusedChangesNothing
refused_changes_nothing asked s map Fine e = record { state_is = answer_refused (answer_in (plan_of asked s) map) s e; put_is = plan_refused (plan_of asked s) map e }
refused_changes_nothing asked s map Starved e = record { state_is = refl; put_is = refl }
refused_changes_nothing asked s map Faulted e = record { state_is = refl; put_is = refl }

pub only_saves_change : OnlySavesChange
only_saves_change asked s map Fine bytes sound is = frame.only_saves_change (origin_in (plan_of asked s) map) s (answer_in (plan_of asked s) map) bytes (asked_fits asked s sound map) is
only_saves_change asked s map Starved bytes sound is = is
only_saves_change asked s map Faulted bytes sound is = is

pub saved_theorems_hold : SavedTheoremsHold
saved_theorems_hold asked s map Fine theorem before sound known e =
    frame.saved_theorems_hold (origin_in (plan_of asked s) map) s (answer_in (plan_of asked s) map) theorem before sound (asked_fits asked s sound map) known e
saved_theorems_hold asked s map Starved theorem before sound known e = known e
saved_theorems_hold asked s map Faulted theorem before sound known e = known e

group_origin : (g : Group) (m : Meaning) (s : State) (map : Map) (bytes : List ℕ) → origin_in (plan_in g m s) map ≡ File bytes → IsFetching m map bytes
group_origin group.Database m s map bytes e = database_origin m s map bytes e
group_origin group.Settings m s map bytes e = absurd (no_origin (setting_answer m s) map bytes e)
group_origin group.Edits m s map bytes e = absurd (no_origin (edit_answer m s) map bytes e)
group_origin group.Session m s map bytes e = absurd (no_origin (proof_answer m s) map bytes e)

asked_origin : (asked : Asked) (s : State) (map : Map) (bytes : List ℕ) → origin_in (plan_of asked s) map ≡ File bytes → ComesFrom asked map bytes
unfolding command_plan
asked_origin TooLong s map bytes e = cc
asked_origin (Wrong fault) s map bytes e = cc
asked_origin (Asks m) s map bytes e = let f : IsFetching m map bytes = group_origin (group_of m) m s map bytes e in ByReading f.name (ap Asks f.is) f.found

never : (d : Option (List ℕ)) (bytes : List ℕ) → d ≡ None → d ≡ Some bytes → ⊥
never d bytes none e = let no : (let x : Option (List ℕ) = None in x) ≡ Some bytes = sym none ∙ e in cc

pub databases_come_by_reading : DatabasesComeByReading
databases_come_by_reading asked s map Fine bytes sound none e =
    asked_origin asked s map bytes (frame.loads_the_origin (origin_in (plan_of asked s) map) s (answer_in (plan_of asked s) map) bytes (asked_fits asked s sound map) none e)
databases_come_by_reading asked s map Starved bytes sound none e = absurd (never s.database bytes none e)
databases_come_by_reading asked s map Faulted bytes sound none e = absurd (never s.database bytes none e)

pub puts_the_database : PutsTheDatabase
unfolding command_plan database_plan
puts_the_database name s map Fine put e = write_puts s name put e
puts_the_database name s map Starved put e = cc
puts_the_database name s map Faulted put e = cc

pub ends_silently : EndsSilently
ends_silently asked s map sound on off = frame.ends_silently (origin_in (plan_of asked s) map) s (answer_in (plan_of asked s) map) (asked_fits asked s sound map) on off

pub reports_hold : ReportsHold
reports_hold asked s map done sound e =
    let origin : Origin = origin_in (plan_of asked s) map in
    frame.reports_hold origin s done (subst (Fits origin s) e (asked_fits asked s sound map))

nothing_made : (database : Option (List ℕ)) → MadeIn database None
nothing_made None = tt
nothing_made (Some bytes) = tt

pub saves_can_be_made : SavesCanBeMade
saves_can_be_made asked s map Fine sound = frame.saves_can_be_made (origin_in (plan_of asked s) map) s (answer_in (plan_of asked s) map) (asked_fits asked s sound map)
saves_can_be_made asked s map Starved sound = nothing_made s.database
saves_can_be_made asked s map Faulted sound = nothing_made s.database
