-- What a line reader has at hand.
use Rattle.std.specs.Prelude.{◌≡◌, ◌≤◌, ℕ, Bool, true, List, [], ◌++◌}
use Rattle.mm_lines.specs.Limits.{most_taken}
use Rattle.mm_lines.specs.Parts.{IsFree}

-- the value of a `LineReader`
pub record ReaderState : Type 0 where
  -- the bytes that were taken and stand in no line that was found; of a line that has not ended, what is held of it
  pub ahead : List ℕ
  -- what is kept of the line that was found last
  pub line : List ℕ
  -- how many bytes were taken
  pub taken : ℕ
  -- whether the source has said that it ends
  pub ended : Bool

-- the line that is begun has no LF, and after the end nothing is at hand
pub record IsSound (begun chunk : List ℕ) (taken : ℕ) (ended : Bool) : Type 0 where
  pub most : taken ≤ most_taken
  pub free : IsFree begun
  pub over : ended ≡ true → begun ++ chunk ≡ []
