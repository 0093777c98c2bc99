-- What saving a proof answers.
use Rattle.std.specs.Prelude.{◌≡◌, ◌≤◌, ◌<◌, ℕ, List, Result, Ok, Err, length}
use Rattle.mm_scope.specs.Judged.{most_bytes}
use Rattle.mm_scope.specs.declared.database.Database.{Database}
use Rattle.mm_plain.specs.declared.plain.Plain.{Plain}
use Rattle.mm_splice.specs.Keeping.{KeepsTheRest}
use Rattle.mm_save.specs.Saving.{saved, saved_text}
use Rattle.mm_save.specs.declared.form.Form.{Form}
use Rattle.mm_save.specs.declared.fault.SaveFault.{SaveFault}
use Rattle.mm_save.specs.declared.fault.SaveFault.TheVariants.{TooLong, Memory}

-- the database with the proof, which is not too long and keeps the rest
pub record IsSaved (bytes : List ℕ) (at : ℕ) (form : Form) (x : Plain) (new : List ℕ) : Type 0 where
  pub is : new ≡ saved bytes at form x
  pub keeps : KeepsTheRest bytes at (saved_text bytes at form x)
  pub room : length (saved bytes at form x) ≤ most_bytes

-- That database; the one fault is that its bytes are too many, unless memory ran out.
abbrev pub AnswersSave : List ℕ → ℕ → Form → Plain → Result Database SaveFault → Type 0
AnswersSave bytes at form x (Ok d) = IsSaved bytes at form x d
AnswersSave bytes at form x (Err TooLong) = most_bytes < length (saved bytes at form x)
AnswersSave bytes at form x (Err Memory) = Unit {0}
