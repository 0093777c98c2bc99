-- What a line reader does.
use Rattle.std.specs.Prelude.{◌≡◌, ◌+◌, ◌<◌, ◌||◌, ℕ, Bool, true, false, IsTrue, List, [], ◌∷◌, ◌++◌, length, nat_le, Result, Ok, Err, if◌then◌else◌}
use Rattle.std.specs.List.{list_any}
use Rattle.mm_base.specs.declared.source.Source.{Ghosts as SourceOf}
use Rattle.mm_base.specs.Source.{Gives}
use Rattle.mm_lines.specs.declared.next.Next.{Next}
use Rattle.mm_lines.specs.declared.next.Next.TheVariants.{Line, End}
use Rattle.mm_lines.specs.declared.next.Stopped.{Stopped}
use Rattle.mm_lines.specs.declared.next.Stopped.TheVariants.{Failed, Spent}
use Rattle.mm_lines.specs.Limits.{most_taken}
use Rattle.mm_lines.specs.Lines.{lines_of, kept, kept_lines}
use Rattle.mm_lines.specs.Parts.{is_lf, IsFree, held, MovesTo}
use Rattle.mm_lines.specs.State.{ReaderState}

-- whether a call answers that the source has failed
abbrev pub has_failed : {T : Type 0} → Result T Stopped → Bool
has_failed (Ok x) = false
has_failed (Err Failed) = true
has_failed (Err Spent) = false

-- all bytes at hand and to come, where so many are left in the source
abbrev pub all_of : ReaderState → List ℕ → List ℕ
all_of reader left = reader.ahead ++ (if reader.ended then [] else left)

-- whether the source isn't asked: it has ended, a line is at hand, or no more bytes may be taken
abbrev pub is_silent : ReaderState → Bool
is_silent reader = reader.ended || (list_any is_lf reader.ahead || nat_le most_taken reader.taken)

-- The first line was taken of these bytes.
pub record TakesLine (bytes : List ℕ) (new : ReaderState) : Type 0 where
  -- the line as it stood in the input, with what ends it, and the line itself
  pub used : List ℕ
  pub line : List ℕ
  pub whole : bytes ≡ used ++ new.ahead
  pub some : 0 < length used
  -- whatever follows in the input, these bytes are this line of it; nothing follows where the input has ended
  pub is_line : (more : List ℕ) → (new.ended ≡ true → more ≡ []) → lines_of (used ++ more) ≡ line ∷ lines_of more
  pub last : new.ended ≡ true → new.ahead ≡ []
  pub kept_is : new.line ≡ kept line

-- No line has ended in these bytes, and they are held.
pub record HoldsLine (bytes : List ℕ) (old new : ReaderState) : Type 0 where
  pub free : IsFree bytes
  pub ahead : new.ahead ≡ held bytes
  pub line : new.line ≡ old.line
  pub open_still : new.ended ≡ false

-- The input has ended, and these bytes are none.
pub record HasEnded (bytes : List ℕ) (old new : ReaderState) : Type 0 where
  pub none : bytes ≡ []
  pub ahead : new.ahead ≡ []
  pub line : new.line ≡ old.line
  pub ended : new.ended ≡ true

-- what was found of these bytes
abbrev pub Finds : List ℕ → ReaderState → Result Next Stopped → ReaderState → Type 0
Finds bytes old (Ok Line) new = TakesLine bytes new
Finds bytes old (Ok End) new = HasEnded bytes old new
Finds bytes old (Err Failed) new = HoldsLine bytes old new × (new.taken < most_taken)
Finds bytes old (Err Spent) new = HoldsLine bytes old new × (new.taken ≡ most_taken)

-- Bytes were taken from the source, and of those at hand and these this was found.
pub record Reads {S : Type 0} (src : SourceOf S) (old : ReaderState) (was : S) (result : Result Next Stopped) (new : ReaderState) (now : S) : Type 0 where
  pub bytes : List ℕ
  pub given : Gives src.tells src.left was now bytes
  pub count : new.taken ≡ old.taken + length bytes
  pub finds : Finds (old.ahead ++ bytes) old result new
  -- the source has ended where the reader says so first
  pub end : old.ended ≡ false → new.ended ≡ true → IsTrue (src.tells now) → src.left now ≡ []
  -- it is asked once more for that, which is done only where more may be taken
  pub unspent : old.ended ≡ false → new.ended ≡ true → new.taken < most_taken

-- The lines before were the one that was found and the lines after. Where none was found, they are the same, as far as they are kept.
abbrev pub LinesFollow : Result Next Stopped → List (List ℕ) → List ℕ → List (List ℕ) → Type 0
LinesFollow (Ok Line) before found after = (line : List ℕ) × (found ≡ kept line) × (before ≡ line ∷ after)
LinesFollow (Ok End) before found after = (before ≡ []) × (after ≡ [])
LinesFollow (Err e) before found after = kept_lines after ≡ kept_lines before

-- whether an LF was found
abbrev pub found_lf : Result Bool Stopped → Bool
found_lf (Ok lf) = lf
found_lf (Err e) = false

-- Bytes were taken from the source, and those at hand and these were moved behind the line that was begun, up to an LF or all.
pub record Moves {S : Type 0} (src : SourceOf S) (chunk begun : List ℕ) (taken : ℕ) (was : S) (lf : Bool) (chunk' begun' : List ℕ) (taken' : ℕ) (now : S) : Type 0 where
  pub bytes : List ℕ
  pub given : Gives src.tells src.left was now bytes
  pub count : taken' ≡ taken + length bytes
  pub moved : MovesTo (chunk ++ bytes) begun lf chunk' begun'
