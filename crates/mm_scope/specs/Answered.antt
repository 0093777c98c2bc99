-- What reading a database answers.
use Rattle.std.specs.Prelude.{◌≡◌, ℕ, true, List, Result, Ok, Err, Vec}
use Rattle.std.specs.Global.{Global}
use Rattle.mm_scope.specs.Contents.{is_read}
use Rattle.mm_scope.specs.Contexts.{Fails}
use Rattle.mm_scope.specs.Databases.{database_of}
use Rattle.mm_scope.specs.declared.database.Database.{Database}
use Rattle.mm_scope.specs.declared.fault.ReadFault.{ReadFault}

-- the database of these bytes, or the bytes and the first fault, unless memory ran out
abbrev pub AnswersRead : List ℕ → Result Database (Vec ℕ Global × ReadFault) → Type 0
AnswersRead bytes (Ok d) = (d ≡ bytes) × (is_read bytes ≡ true)
AnswersRead bytes (Err e) = (e.0.items ≡ bytes) × Fails e.1 (database_of bytes)
