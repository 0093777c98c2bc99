-- What a session has taken of its input.
use Rattle.std.specs.Prelude.{◌≡◌, ◌+◌, ◌≤◌, ◌<◌, ◌==◌, ◌||◌, ◌&&◌, not, nat_lt, ℕ, Bool, true, IsTrue, List, [], ◌++◌, length}
use Rattle.mm_base.specs.declared.source.Source.{Ghosts as SourceOf}
use Rattle.mm_base.specs.Source.{Gives}
use Rattle.mm_lines.specs.Limits.{chunk_size, most_taken}
use Rattle.mm_lines.specs.Lines.{lines_of}
use Rattle.mm_lines.specs.Parts.{IsFree}

-- whether a session came to its end because its input did
abbrev pub has_run_out : ℕ → Bool → Bool
has_run_out status exited = nat_lt status 2 && not exited

-- whether the input gave no command more: it has ended or failed, or too much was taken of it
abbrev pub wants_more : ℕ → Bool → Bool
wants_more status exited = has_run_out status exited || (status == 3 || status == 7)

-- whether the last command ended the session: as EXIT, or as the 65th that was given up
abbrev pub ends_by_command : ℕ → Bool → Bool
ends_by_command status exited = (nat_lt status 2 && exited) || (status == 5 || status == 6)

-- The commands are the words and then the lines of the input. Of it this was taken in lines that were found, and a rest,
-- before a session ended, which had run so many commands.
pub record Takes {S : Type 0} (src : SourceOf S) (words : List (List ℕ)) (was now : S) (commands : List (List ℕ)) (used : List ℕ) (run status : ℕ) (exited : Bool) : Type 0 where
  pub rest : List ℕ
  pub given : Gives src.tells src.left was now (used ++ rest)
  pub later : List (List ℕ)
  pub are_commands : commands ≡ words ++ (lines_of used ++ later)
  -- where the input tells what is left, these are all its lines
  pub told : IsTrue (src.tells now) → commands ≡ words ++ lines_of (src.left was)
  pub found : run ≤ length words + length (lines_of used)
  -- nothing is taken before the words were run
  pub words_first : run < length words → used ++ rest ≡ []
  -- no whole line is left over where a command was wanted, and nothing where the input has ended
  pub no_line_left : wants_more status exited ≡ true → (run ≡ length words + length (lines_of used)) × IsFree rest
  pub nothing_left : has_run_out status exited ≡ true → (rest ≡ []) × (IsTrue (src.tells now) → src.left now ≡ [])
  -- after the last line that was run at most 65,536 bytes were taken, and none where a word was the last command
  pub little_more : ends_by_command status exited ≡ true → length rest ≤ chunk_size
  pub last_line : ends_by_command status exited ≡ true → length words < run → run ≡ length words + length (lines_of used)
  pub last_word : ends_by_command status exited ≡ true → run ≤ length words → used ++ rest ≡ []
  -- too much was taken where as much was as may be, and a further read would have been needed, and nowhere else
  pub spent : status ≡ 7 → length (used ++ rest) ≡ most_taken
  pub unspent : (has_run_out status exited || status == 3) ≡ true → length (used ++ rest) < most_taken
