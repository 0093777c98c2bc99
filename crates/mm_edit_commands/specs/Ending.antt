-- How an edit of the tree of an open proof ends.
use Rattle.std.specs.Prelude.{◌≡◌, ℕ, List, [], ◌∷◌, ◌++◌, map, Result, Ok, Err}
use Rattle.std.specs.declared.alloc.AllocError.{AllocError}
use Rattle.circular_buffer.specs.Buffer.{keep_last}
use Rattle.mm_tree.specs.Trees as trees
use Rattle.mm_tree.specs.Versions.{named}
use Rattle.mm_tree.specs.declared.tree.Mark.{Mark}
use Rattle.mm_undo.specs.Histories.{Marks, lists_of}
use Rattle.mm_shell.specs.OpenProofs.{IsAtRest}
use Rattle.mm_edit_commands.specs.Edits.{counts_of}
use Rattle.mm_edit_commands.specs.declared.edits.Counts.{Counts}

-- The edit is kept: the proof stays in hand, and the one that the mark names is the newest of the past.
pub record IsKept (bytes : List ℕ) (before : Mark) (t : trees.State) (h : Marks) (counts : Counts) (t' : trees.State) (h' : Marks) : Type 0 where
  pub counted : counts ≡ counts_of bytes t.proof
  pub proof : t'.proof ≡ t.proof
  pub lists : lists_of t'.versions h' ≡ record { past = keep_last h.depth (map (named t.versions) h.past ++ named t.versions before ∷ []); future = []; depth = h.depth }
  pub rest : IsAtRest t'.versions h'

-- It is taken back: the proof that the mark names is in hand, with the history that it had.
pub record IsTakenBack (before : Mark) (t : trees.State) (h : Marks) (t' : trees.State) (h' : Marks) : Type 0 where
  pub proof : t'.proof ≡ named t.versions before
  pub lists : lists_of t'.versions h' ≡ lists_of t.versions h
  pub rest : IsAtRest t'.versions h'

-- the steps are counted and the edit is kept, or there is no memory for that
abbrev pub EndsEdit : List ℕ → Mark → trees.State → Marks → Result Counts AllocError → trees.State → Marks → Type 0
EndsEdit bytes before t h (Ok counts) t' h' = IsKept bytes before t h counts t' h'
EndsEdit bytes before t h (Err memory) t' h' = IsTakenBack before t h t' h'
