-- What holds of every line, however it ends.
use Rattle.std.specs.Prelude.{◌≡◌, ℕ, Bool, true, false, List, [], None, Some, Ok}
use Rattle.mm_base.specs.Files.{Map}
use Rattle.mm_command.specs.Meanings.{Read, WriteSource}
use Rattle.mm_shell.specs.Saves.{HoldsIn, last_complete, saved_by, with_save}
use Rattle.mm_shell.specs.Fitting.{Holding, MadeIn}
use Rattle.mm_shell.specs.Sound.{IsSound}
use Rattle.mm_shell.specs.declared.answer.Done.{Done}
use Rattle.mm_shell.specs.declared.state.State.{State}
use Rattle.mm_step.specs.Asked.{Asked, Asks}
use Rattle.mm_step.specs.Logs.{IsLogChange, log_change}
use Rattle.mm_step.specs.Effects.{Effect, Outcome, asked_effect, ended}

-- the effect of what is asked, where it ends so
abbrev pub effect_on : Asked → State → Map → Outcome → Effect
effect_on asked state map outcome = ended outcome state (asked_effect asked state map)

-- A sound state stays sound.
abbrev pub StaysSound : Type 0
StaysSound = (asked : Asked) (state : State) (map : Map) (outcome : Outcome) → IsSound state → IsSound (effect_on asked state map outcome).state

-- nothing is changed and nothing is put
pub record ChangesNothing (state : State) (effect : Effect) : Type 0 where
  pub state_is : effect.state ≡ state
  pub put_is : effect.put ≡ None

-- What is refused changes nothing.
abbrev pub RefusedChangesNothing : Type 0
RefusedChangesNothing = (asked : Asked) (state : State) (map : Map) (outcome : Outcome) → (effect_on asked state map outcome).refused ≡ true → ChangesNothing state (effect_on asked state map outcome)

-- A database changes by saves alone.
abbrev pub OnlySavesChange : Type 0
OnlySavesChange = (asked : Asked) (state : State) (map : Map) (outcome : Outcome) (bytes : List ℕ) → IsSound state → state.database ≡ Some bytes
    → (effect_on asked state map outcome).state.database ≡ Some (with_save bytes (saved_by (effect_on asked state map outcome).answer))

-- Where the last save of a theorem was complete, it holds: where that is so before what is asked, it is so afterwards.
abbrev pub SavedTheoremsHold : Type 0
SavedTheoremsHold = (asked : Asked) (state : State) (map : Map) (outcome : Outcome) (theorem : ℕ) (before : Bool) → IsSound state → (before ≡ true → HoldsIn state.database theorem)
    → last_complete theorem (saved_by (effect_on asked state map outcome).answer) before ≡ true → HoldsIn (effect_on asked state map outcome).state.database theorem

-- where a database comes from: what is asked reads a file of these bytes
pub data ComesFrom (asked : Asked) (map : Map) (bytes : List ℕ) : Type 0 where
  ByReading : (name : List ℕ) → asked ≡ Asks (Read name) → map name ≡ Some bytes → ComesFrom asked map bytes

-- Where there was no database, one comes by READ alone, and is what the file holds.
abbrev pub DatabasesComeByReading : Type 0
DatabasesComeByReading = (asked : Asked) (state : State) (map : Map) (outcome : Outcome) (bytes : List ℕ) → IsSound state → state.database ≡ None
    → (effect_on asked state map outcome).state.database ≡ Some bytes → ComesFrom asked map bytes

-- What WRITE SOURCE puts into the files is the database.
abbrev pub PutsTheDatabase : Type 0
PutsTheDatabase = (name : List ℕ) (state : State) (map : Map) (outcome : Outcome) (put : List ℕ × List ℕ) → (effect_on (Asks (WriteSource name)) state map outcome).put ≡ Some put → state.database ≡ Some put.1

-- What ends the session has no text.
abbrev pub EndsSilently : Type 0
EndsSilently = (asked : Asked) (state : State) (map : Map) → IsSound state → state.ended ≡ false → (asked_effect asked state map).state.ended ≡ true → (asked_effect asked state map).text ≡ []

-- A log is opened by OPEN LOG alone, and closed by CLOSE LOG alone, where they aren't refused.
abbrev pub LogsChange : Type 0
LogsChange = (asked : Asked) (state : State) (map : Map) (outcome : Outcome) → IsLogChange (log_change (effect_on asked state map outcome).refused asked) state.log_open (effect_on asked state map outcome).state.log_open

-- What is reported holds: what is told of a theorem's proof is what comes of it in the database.
abbrev pub ReportsHold : Type 0
ReportsHold = (asked : Asked) (state : State) (map : Map) (done : Done) → IsSound state → (asked_effect asked state map).answer ≡ Ok done → Holding state done.report

-- What is saved can be made: a text that may stand as a proof, of a theorem, where there is room for it.
abbrev pub SavesCanBeMade : Type 0
SavesCanBeMade = (asked : Asked) (state : State) (map : Map) (outcome : Outcome) → IsSound state → MadeIn state.database (saved_by (effect_on asked state map outcome).answer)
