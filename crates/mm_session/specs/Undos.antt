-- What UNDO and REDO come to in a session.
use Rattle.std.specs.Prelude.{◌≡◌, ◌<◌, ◌≤◌, ◌+◌, ◌&&◌, not, ℕ, zero, suc, Bool, true, false, Some, is_some, if◌then◌else◌, length}
use Rattle.mm_plain.specs.Shape.{Proof}
use Rattle.mm_command.specs.Meanings.{Meaning, Undo, Redo, SetUndo}
use Rattle.mm_undo.specs.Undos.{Timeline, timeline_of, undone, redone}
use Rattle.mm_shell.specs.OpenProofs.{ProofState, lists_in}
use Rattle.mm_step.specs.Asked.{Asked, Asks, asked_of}
use Rattle.mm_step.specs.Groups.{group_of}
use Rattle.mm_step.specs.declared.group.Group.{Group}
use Rattle.mm_step.specs.declared.group.Group.TheVariants.{Edits}
use Rattle.mm_session.specs.Calls.{HasCause}
use Rattle.mm_session.specs.Session.{Script, Turn, session, turn, done}

-- after n commands this proof is in hand
abbrev pub InHand : Script → ℕ → ProofState → Type 0
InHand s n p = (session s n).state.open_proof ≡ Some p

-- the past of a proof in hand, the proof, and its future
abbrev pub timeline_in : ProofState → Timeline
timeline_in p = timeline_of (lists_in p) p.proof

-- after n commands a proof with this timeline is in hand
pub record StandsAt (s : Script) (n : ℕ) (t : Timeline) : Type 0 where
  pub held : ProofState
  pub is : InHand s n held
  pub timeline : timeline_in held ≡ t

-- after n commands this is the proof in hand, whatever its past
pub record HasInHand (s : Script) (n : ℕ) (proof : Proof) : Type 0 where
  pub held : ProofState
  pub is : InHand s n held
  pub same : held.proof ≡ proof

-- ## Commands that are carried out

-- the command asks for this, and is accepted
pub record IsCarriedOut (t : Turn) (m : Meaning) : Type 0 where
  pub asked : asked_of t.line ≡ Asks m
  pub accepted : (done t).refused ≡ false

-- so are k commands after n others
abbrev pub AreCarriedOut : Script → ℕ → ℕ → Meaning → Type 0
AreCarriedOut s n k m = (i : ℕ) → i < k → IsCarriedOut (turn s (n + i)) m

abbrev pub is_edits : Group → Bool
is_edits Edits = true
is_edits group = false

abbrev pub asks_edit : Asked → Bool
asks_edit (Asks m) = is_edits (group_of m)
asks_edit asked = false

-- whether the command is an edit that is accepted
abbrev pub is_edit : Turn → Bool
is_edit t = asks_edit (asked_of t.line) && not (done t).refused

-- how many edits are accepted among the m commands after the first n
unfoldable pub edits_since : Script → ℕ → ℕ → ℕ
edits_since s n zero = 0
edits_since s n (suc m) = if is_edit (turn s (n + m)) then suc (edits_since s n m) else edits_since s n m

-- whether UNDO, REDO or SET UNDO is asked for
abbrev pub asks_history : Asked → Bool
asks_history (Asks Undo) = true
asks_history (Asks Redo) = true
asks_history (Asks (SetUndo n)) = true
asks_history asked = false

-- Throughout the m commands after the first n a proof is in hand, and none of them is UNDO, REDO or SET UNDO.
pub record StaysInHand (s : Script) (n m : ℕ) : Type 0 where
  pub stays : (i : ℕ) → i ≤ m → is_some (session s (n + i)).state.open_proof ≡ true
  pub plain : (i : ℕ) → i < m → asks_history (asked_of (turn s (n + i)).line) ≡ false

-- ## The laws

-- UNDO is never refused where there is a past, nor REDO where there is a future: they take no memory, and no file.
abbrev pub UndosAreAccepted : Type 0
UndosAreAccepted = (s : Script) (n : ℕ) (p : ProofState) → HasCause (turn s n) → InHand s n p → 1 ≤ length p.past → asked_of (turn s n).line ≡ Asks Undo → (done (turn s n)).refused ≡ false

abbrev pub RedosAreAccepted : Type 0
RedosAreAccepted = (s : Script) (n : ℕ) (p : ProofState) → HasCause (turn s n) → InHand s n p → 1 ≤ length p.future → asked_of (turn s n).line ≡ Asks Redo → (done (turn s n)).refused ≡ false

-- k UNDOs go k proofs back, and k REDOs k proofs forward.
abbrev pub UndosLeadBack : Type 0
UndosLeadBack = (s : Script) (n k : ℕ) (p : ProofState) → InHand s n p → AreCarriedOut s n k Undo → StandsAt s (n + k) (undone k (timeline_in p))

abbrev pub RedosLeadForward : Type 0
RedosLeadForward = (s : Script) (n k : ℕ) (p : ProofState) → InHand s n p → AreCarriedOut s n k Redo → StandsAt s (n + k) (redone k (timeline_in p))

-- As many UNDOs as edits were accepted since a proof was in hand give that proof again, where so many are kept.
abbrev pub EditsAreUndone : Type 0
EditsAreUndone = (s : Script) (n m : ℕ) (p : ProofState) → InHand s n p → StaysInHand s n m → edits_since s n m ≤ p.depth → AreCarriedOut s (n + m) (edits_since s n m) Undo
    → HasInHand s (n + m + edits_since s n m) p.proof
