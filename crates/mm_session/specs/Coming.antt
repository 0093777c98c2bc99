-- The commands of a session as they come: the words, and then the lines of the input.
use Rattle.std.specs.Prelude.{◌≡◌, ◌+◌, ◌-◌, ◌<◌, ◌≤◌, ℕ, true, false, IsTrue, List, [], ◌∷◌, ◌++◌, length, take, drop, slice_index_or, Result, Ok, Err}
use Rattle.mm_base.specs.declared.source.Source.{Ghosts as SourceOf}
use Rattle.mm_lines.specs.declared.next.Next.{Next}
use Rattle.mm_lines.specs.declared.next.Next.TheVariants.{Line, End}
use Rattle.mm_lines.specs.declared.next.Stopped.{Stopped}
use Rattle.mm_lines.specs.declared.next.Stopped.TheVariants.{Failed, Spent}
use Rattle.mm_lines.specs.Limits.{chunk_size, most_taken}
use Rattle.mm_lines.specs.Lines.{lines_of}
use Rattle.mm_lines.specs.Reader.{all_of}
use Rattle.mm_lines.specs.Run.{HasRead, HasStopped}
use Rattle.mm_lines.specs.State.{ReaderState}
use Rattle.mm_session.specs.declared.commands.Commands.{Commands}
use Rattle.mm_session.specs.declared.commands.Last.{Last}
use Rattle.mm_session.specs.declared.commands.Last.TheVariants as last
use Rattle.mm_session.specs.Advance.{IsLine}

-- a reader that has found no line yet
abbrev pub no_line : ReaderState
no_line = record { ahead = []; line = []; taken = 0; ended = false }

abbrev pub line_at : List (List ℕ) → ReaderState → Last → List ℕ
line_at words reader (last.Word index) = slice_index_or words index []
line_at words reader last.Line = reader.line

-- what is kept of the last command
abbrev pub line_in : Commands → List ℕ
line_in c = line_at c.words.now c.reader c.last

-- Of an input that stood here these commands have come: words, and then lines.
pub record Came {S : Type 0} (src : SourceOf S) (words : List (List ℕ)) (begun : S) (met : List (List ℕ)) (c : Commands) (now : S) : Type 0 where
  pub of_words : c.words.now ≡ words
  pub taken : List ℕ
  pub used : List ℕ
  pub lines : List (List ℕ)
  pub read : HasRead src begun taken used lines c.reader now
  pub are_met : met ≡ take c.next words ++ lines
  pub within : c.next ≤ length words
  -- the input is left alone until all words have come
  pub waits : c.next < length words → lines ≡ []
  pub untaken : lines ≡ [] → (taken ≡ []) × (c.reader ≡ no_line) × (now ≡ begun)
  pub most : c.reader.taken ≤ most_taken
  pub few : length c.reader.ahead ≤ chunk_size

-- those that are to come, where this is left of the input
abbrev pub to_come : List (List ℕ) → Commands → List ℕ → List (List ℕ)
to_come words c left = drop c.next words ++ lines_of (all_of c.reader left)

-- how many words and bytes are to come at most
abbrev pub room : Commands → ℕ
room c = (length c.words.now - c.next) + ((most_taken - c.reader.taken) + length c.reader.ahead)

-- One more command has come.
pub record ComesNext {S : Type 0} (src : SourceOf S) (old : Commands) (was : S) (new : Commands) (now : S) : Type 0 where
  pub whole : List ℕ
  pub is_line : IsLine (line_in new) whole
  pub came : (words : List (List ℕ)) (begun : S) (met : List (List ℕ)) → Came src words begun met old was → Came src words begun (met ++ whole ∷ []) new now
  pub nearer : (words : List (List ℕ)) (begun : S) (met : List (List ℕ)) → Came src words begun met old was → room new < room old

-- None has come, and all have.
pub record ComesToEnd {S : Type 0} (src : SourceOf S) (words : List (List ℕ)) (begun : S) (lines : List (List ℕ)) (old new : Commands) (now : S) : Type 0 where
  pub taken : List ℕ
  pub used : List ℕ
  pub read : HasRead src begun taken used lines new.reader now
  pub all : old.next ≡ length words
  pub over : new.reader.ended ≡ true

-- None has come, and it isn't known that all have.
pub record ComesToStop {S : Type 0} (src : SourceOf S) (words : List (List ℕ)) (begun : S) (lines : List (List ℕ)) (why : Stopped) (old : Commands) (was : S) (new : Commands) (now : S) : Type 0 where
  pub taken : List ℕ
  pub used : List ℕ
  pub stops : HasStopped src begun taken used lines new.reader now
  pub told : IsTrue (src.tells now) → IsTrue (src.tells was)
  pub all : old.next ≡ length words
  pub spent : why ≡ Spent → length taken ≡ most_taken
  pub failed : why ≡ Failed → length taken < most_taken

-- what the next command is
abbrev pub NextIs : {S : Type 0} (src : SourceOf S) (old : Commands) (was : S) → Result Next Stopped → Commands → S → Type 0
NextIs src old was (Ok Line) new now = ComesNext src old was new now
NextIs src old was (Ok End) new now = (words : List (List ℕ)) (begun : _) (met : List (List ℕ)) → (c : Came src words begun met old was) → ComesToEnd src words begun c.lines old new now
NextIs src old was (Err e) new now = (words : List (List ℕ)) (begun : _) (met : List (List ℕ)) → (c : Came src words begun met old was) → ComesToStop src words begun c.lines e old was new now
