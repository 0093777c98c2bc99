-- What lines make of the history of the open proof.
use Rattle.std.specs.Prelude.{◌≡◌, ◌≤◌, ℕ, true, false, [], ◌∷◌, ◌++◌, length, None, Some}
use Rattle.circular_buffer.specs.Buffer.{keep_last}
use Rattle.mm_base.specs.Files.{Map}
use Rattle.mm_command.specs.Meanings.{Meaning, Undo, Redo, SetUndo}
use Rattle.mm_undo.specs.Histories.{IsRedone, IsUndone}
use Rattle.mm_shell.specs.OpenProofs.{ProofState, lists_in}
use Rattle.mm_shell.specs.declared.state.State.{State}
use Rattle.mm_step.specs.Asked.{Asks}
use Rattle.mm_step.specs.Effects.{Effect, Outcome, Fine, asked_effect}
use Rattle.mm_step.specs.Groups.{group_of}
use Rattle.mm_step.specs.Laws.{effect_on}
use Rattle.mm_step.specs.declared.group.Group.{Group}
use Rattle.mm_step.specs.declared.group.Group.TheVariants.{Edits}

-- ## What becomes of an open proof

-- an edit appends the old proof to the past, drops the oldest beyond the depth, and empties the future
pub record IsAppended (p q : ProofState) : Type 0 where
  pub past : q.past ≡ keep_last p.depth (p.past ++ p.proof ∷ [])
  pub future : q.future ≡ []
  pub depth : q.depth ≡ p.depth

-- SET UNDO n keeps the newest n of the past, and empties the future
pub record IsCut (n : ℕ) (p q : ProofState) : Type 0 where
  pub proof : q.proof ≡ p.proof
  pub past : q.past ≡ keep_last n p.past
  pub future : q.future ≡ []
  pub depth : q.depth ≡ n

-- others leave it alone
pub record IsUntouched (p q : ProofState) : Type 0 where
  pub proof : q.proof ≡ p.proof
  pub lists : lists_in q ≡ lists_in p

abbrev pub IsMovedIn : Group → ProofState → ProofState → Type 0
IsMovedIn Edits p q = IsAppended p q
IsMovedIn group p q = IsUntouched p q

-- by the command that is accepted
abbrev pub IsMoved : Meaning → ProofState → ProofState → Type 0
IsMoved Undo p q = IsUndone true (lists_in p) (lists_in q) p.proof q.proof
IsMoved Redo p q = IsRedone true (lists_in p) (lists_in q) p.proof q.proof
IsMoved (SetUndo n) p q = IsCut n p q
IsMoved m p q = IsMovedIn (group_of m) p q

-- nothing to undo and nothing to redo, and this depth
pub record IsBegun (depth : ℕ) (q : ProofState) : Type 0 where
  pub past : q.past ≡ []
  pub future : q.future ≡ []
  pub depth_is : q.depth ≡ depth

-- ## The laws

-- Where a proof is open before and after an accepted command, its history moves so.
abbrev pub HistoriesMove : Type 0
HistoriesMove = (m : Meaning) (s : State) (map : Map) (outcome : Outcome) (p q : ProofState) → s.open_proof ≡ Some p → (effect_on (Asks m) s map outcome).refused ≡ false
    → (effect_on (Asks m) s map outcome).state.open_proof ≡ Some q → IsMoved m p q

-- A proof that a command opens has an empty history, of the depth of the settings.
abbrev pub HistoriesBegin : Type 0
HistoriesBegin = (m : Meaning) (s : State) (map : Map) (outcome : Outcome) (q : ProofState) → s.open_proof ≡ None → (effect_on (Asks m) s map outcome).state.open_proof ≡ Some q → IsBegun s.undo_depth q

-- the command is accepted where it finds memory, and the proof stays open
pub record IsAccepted (m : Meaning) (s : State) (map : Map) : Type 0 where
  pub accepted : (effect_on (Asks m) s map Fine).refused ≡ false
  pub now : ProofState
  pub is : (effect_on (Asks m) s map Fine).state.open_proof ≡ Some now

-- UNDO is accepted where there is something to undo, and REDO where there is something to redo.
abbrev pub UndosAreAccepted : Type 0
UndosAreAccepted = (s : State) (map : Map) (p : ProofState) → s.open_proof ≡ Some p → 1 ≤ length p.past → IsAccepted Undo s map

abbrev pub RedosAreAccepted : Type 0
RedosAreAccepted = (s : State) (map : Map) (p : ProofState) → s.open_proof ≡ Some p → 1 ≤ length p.future → IsAccepted Redo s map

-- They take no memory, and reach no file.
abbrev pub UndosAreFree : Type 0
UndosAreFree = (s : State) (map : Map) → ((asked_effect (Asks Undo) s map).free ≡ true) × ((asked_effect (Asks Undo) s map).reaches_files ≡ false)

abbrev pub RedosAreFree : Type 0
RedosAreFree = (s : State) (map : Map) → ((asked_effect (Asks Redo) s map).free ≡ true) × ((asked_effect (Asks Redo) s map).reaches_files ≡ false)

-- the proof stays open, and its history moves so
pub record StaysOpen (m : Meaning) (p : ProofState) (effect : Effect) : Type 0 where
  pub now : ProofState
  pub is : effect.state.open_proof ≡ Some now
  pub moved : IsMoved m p now

-- An UNDO that is accepted leads back, and a REDO forward.
abbrev pub UndosLeadBack : Type 0
UndosLeadBack = (s : State) (map : Map) (outcome : Outcome) (p : ProofState) → s.open_proof ≡ Some p → (effect_on (Asks Undo) s map outcome).refused ≡ false → StaysOpen Undo p (effect_on (Asks Undo) s map outcome)

abbrev pub RedosLeadForward : Type 0
RedosLeadForward = (s : State) (map : Map) (outcome : Outcome) (p : ProofState) → s.open_proof ≡ Some p → (effect_on (Asks Redo) s map outcome).refused ≡ false → StaysOpen Redo p (effect_on (Asks Redo) s map outcome)
