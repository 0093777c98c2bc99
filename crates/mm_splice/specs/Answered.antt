-- What replacing a proof answers.
use Rattle.std.specs.Prelude.{◌≡◌, ◌≤◌, ◌<◌, ℕ, List, Result, Ok, Err, length}
use Rattle.mm_scope.specs.Judged.{most_bytes}
use Rattle.mm_scope.specs.declared.database.Database.{Database}
use Rattle.mm_splice.specs.Judging.{JudgesTheRest}
use Rattle.mm_splice.specs.Keeping.{KeepsTheRest}
use Rattle.mm_splice.specs.Splicing.{spliced}
use Rattle.mm_splice.specs.declared.fault.SpliceFault.{SpliceFault}
use Rattle.mm_splice.specs.declared.fault.SpliceFault.TheVariants.{TooLong, Memory}

-- The database of the bytes with the text in place of the proof, which keeps the rest, and what is judged of it; the one
-- fault is that these bytes are too many, unless memory ran out.
abbrev pub AnswersSplice : List ℕ → ℕ → List ℕ → Result Database SpliceFault → Type 0
AnswersSplice bytes id text (Ok d) = (d ≡ spliced bytes id text) × KeepsTheRest bytes id text × JudgesTheRest bytes id text
AnswersSplice bytes id text (Err TooLong) = most_bytes < length (spliced bytes id text)
AnswersSplice bytes id text (Err Memory) = length (spliced bytes id text) ≤ most_bytes
