-- What a line does to the log.
use Rattle.std.specs.Prelude.{◌≡◌, ℕ, Bool, true, false, List, []}
use Rattle.mm_command.specs.Meanings.{OpenLog, CloseLog}
use Rattle.mm_step.specs.Asked.{Asked, Asks}

-- The log stays as it is; or one of this name is opened; or it is closed.
pub data LogChange : Type 0 where
  Stays : LogChange
  Opens : List ℕ → LogChange
  Closes : LogChange

-- by whether the line is refused: OPEN LOG opens one, and CLOSE LOG closes it
abbrev pub log_change : Bool → Asked → LogChange
log_change true asked = Stays
log_change false (Asks (OpenLog name)) = Opens name
log_change false (Asks CloseLog) = Closes
log_change false asked = Stays

-- by whether one is open before the line, and after it
abbrev pub IsLogChange : LogChange → Bool → Bool → Type 0
IsLogChange Stays old new = new ≡ old
IsLogChange (Opens name) old new = (old ≡ false) × (new ≡ true)
IsLogChange Closes old new = (old ≡ true) × (new ≡ false)

-- the name of the log that a line asks for
abbrev pub log_asked : Asked → List ℕ
log_asked (Asks (OpenLog name)) = name
log_asked asked = []
