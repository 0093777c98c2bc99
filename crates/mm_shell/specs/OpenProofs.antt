-- The open proof and its history.
use Rattle.std.specs.Prelude.{ℕ, ◌-◌, Bool, true, false, List, [], ◌∷◌, ◌++◌, Option, Some, None, length, take, drop, slice_get}
use Rattle.circular_buffer.specs.Buffer.{keep_last, last_item}
use Rattle.mm_plain.specs.Shape.{Proof}
use Rattle.mm_tree.specs.Trees as trees
use Rattle.mm_tree.specs.Versions.{Versions, HasNoDrafts}
use Rattle.mm_undo.specs.Histories.{IsHistoryOf, Lists, Marks, lists_of}

pub record ProofState : Type 0 where
  -- the theorem's number
  pub theorem : ℕ
  pub proof : Proof
  -- what it was before each edit, the last edit last; what was undone, the last undone first; and how many are kept
  pub past : List Proof
  pub future : List Proof
  pub depth : ℕ
  -- whether it was changed since it was opened or saved
  pub changed : Bool

-- ## What it becomes

-- a theorem's proof as it is opened: nothing to undo or to redo
abbrev pub opened_of : ℕ → Proof → ℕ → ProofState
opened_of id p depth = record { theorem = id; proof = p; past = []; future = []; depth = depth; changed = false }

abbrev pub after_save : ProofState → ProofState
after_save p = record p { changed = false }

-- an edit appends the old proof to the past, drops the oldest beyond the depth, and empties the future
abbrev pub after_edit : ProofState → Proof → ProofState
after_edit p q = record p { proof = q; past = keep_last p.depth (p.past ++ p.proof ∷ []); future = []; changed = true }

-- UNDO moves the last of the past into hand, and puts the proof in hand at the front of the future
abbrev pub undone_to : Option Proof → ProofState → ProofState
undone_to (Some q) p = record p { proof = q; past = take (length p.past - 1) p.past; future = p.proof ∷ p.future; changed = true }
undone_to None p = p

abbrev pub after_undo : ProofState → ProofState
after_undo p = undone_to (last_item p.past) p

-- REDO moves the first of the future into hand, and appends the proof in hand to the past
abbrev pub redone_to : Option Proof → ProofState → ProofState
redone_to (Some q) p = record p { proof = q; past = p.past ++ p.proof ∷ []; future = drop 1 p.future; changed = true }
redone_to None p = p

abbrev pub after_redo : ProofState → ProofState
after_redo p = redone_to (slice_get p.future 0) p

-- SET UNDO n keeps the newest n of the past, and empties the future
abbrev pub with_depth : ℕ → ProofState → ProofState
with_depth n p = record p { past = keep_last n p.past; future = []; depth = n }

-- ## How it is kept

abbrev pub lists_in : ProofState → Lists
lists_in p = record { past = p.past; future = p.future; depth = p.depth }

-- a tree with a history, seen as proofs
abbrev pub seen_as : ℕ → trees.State → Marks → Bool → ProofState
seen_as theorem tree history changed = record {
  theorem = theorem;
  proof = tree.proof;
  past = (lists_of tree.versions history).past;
  future = (lists_of tree.versions history).future;
  depth = history.depth;
  changed = changed;
}

-- the history is that of the tree, and no version is a draft
pub record IsAtRest (v : Versions) (h : Marks) : Type 0 where
  pub held : IsHistoryOf v h
  pub settled : HasNoDrafts v
