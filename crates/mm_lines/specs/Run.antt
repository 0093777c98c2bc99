-- What a line reader has read since it was made.
use Rattle.std.specs.Prelude.{◌≡◌, ◌+◌, ◌<◌, ◌≤◌, ℕ, true, IsTrue, List, [], ◌++◌, length}
use Rattle.mm_base.specs.declared.source.Source.{Ghosts as SourceOf}
use Rattle.mm_base.specs.Source.{Gives}
use Rattle.mm_lines.specs.Limits.{most_taken}
use Rattle.mm_lines.specs.Lines.{lines_of}
use Rattle.mm_lines.specs.Parts.{IsFree}
use Rattle.mm_lines.specs.State.{ReaderState}

-- Of a source that stood here when the reader was new, these bytes were taken, and of them these were used up by these lines.
pub record HasRead {S : Type 0} (src : SourceOf S) (begun : S) (taken used : List ℕ) (lines : List (List ℕ)) (reader : ReaderState) (now : S) : Type 0 where
  pub given : Gives src.tells src.left begun now taken
  pub count : reader.taken ≡ length taken
  pub whole : taken ≡ used ++ reader.ahead
  -- whatever follows in the input, they are its first lines; nothing follows where it has ended
  pub are_lines : (more : List ℕ) → (reader.ended ≡ true → more ≡ []) → lines_of (used ++ more) ≡ lines ++ lines_of more
  pub last : reader.ended ≡ true → reader.ahead ≡ []
  pub end : reader.ended ≡ true → IsTrue (src.tells now) → src.left now ≡ []
  pub unspent : reader.ended ≡ true → reader.taken < most_taken
  pub few : length lines + length reader.ahead ≤ reader.taken

-- So were these bytes taken and used up by these lines, where no line more was found: what was taken beyond them has no LF.
pub record HasStopped {S : Type 0} (src : SourceOf S) (begun : S) (taken used : List ℕ) (lines : List (List ℕ)) (reader : ReaderState) (now : S) : Type 0 where
  pub given : Gives src.tells src.left begun now taken
  pub count : reader.taken ≡ length taken
  pub lines_are : lines_of used ≡ lines
  pub rest : List ℕ
  pub whole : taken ≡ used ++ rest
  pub free : IsFree rest
