-- Many steps back and forward at once.
use Rattle.std.specs.Prelude.{ℕ, ◌+◌, ◌-◌, List, ◌∷◌, ◌++◌, length, take, drop, get_or}
use Rattle.mm_plain.specs.Shape.{Proof}
use Rattle.mm_undo.specs.Histories.{Lists}

-- the past, the proof in hand and the future
pub record Timeline : Type 0 where
  pub past : List Proof
  pub proof : Proof
  pub future : List Proof

abbrev pub timeline_of : Lists → Proof → Timeline
timeline_of l p = record { past = l.past; proof = p; future = l.future }

-- all of them, the oldest first
abbrev pub all_of : Timeline → List Proof
all_of t = t.past ++ t.proof ∷ t.future

-- the same proofs, with the one in hand that has n before it
abbrev pub moved_to : ℕ → Timeline → Timeline
moved_to n t = record { past = take n (all_of t); proof = get_or (all_of t) n t.proof; future = drop (n + 1) (all_of t) }

-- after k steps back
abbrev pub undone : ℕ → Timeline → Timeline
undone k t = moved_to (length t.past - k) t

-- after k steps forward
abbrev pub redone : ℕ → Timeline → Timeline
redone k t = moved_to (length t.past + k) t

-- the k-th proof of a list, counted from the newest, which is the first
abbrev pub newest : ℕ → List Proof → Proof → Proof
newest k ps other = get_or ps (length ps - k) other
