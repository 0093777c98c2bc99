-- A history: lists of versions, and the lists of proofs for which they stand.
use Rattle.std.specs.Prelude.{◌≡◌, ℕ, ◌≤◌, Bool, true, false, List, [], ◌∷◌, ◌++◌, map, All}
use Rattle.mm_plain.specs.Shape.{Proof}
use Rattle.mm_tree.specs.Versions.{Versions, IsAlive, IsKept, is_draft, named}
use Rattle.mm_tree.specs.declared.tree.Mark.{Mark}

-- the versions before, the oldest first; those that were undone, the one undone last first; and how many are kept
pub record Marks : Type 0 where
  pub past : List Mark
  pub future : List Mark
  pub depth : ℕ

-- past and future proofs
pub record Lists : Type 0 where
  pub past : List Proof
  pub future : List Proof
  pub depth : ℕ

-- the proofs that the marks name in a tree
abbrev pub lists_of : Versions → Marks → Lists
lists_of v h = record { past = map (named v) h.past; future = map (named v) h.future; depth = h.depth }

-- where a settled version stands among those of a tree: the number of its root, and how many bindings it has
pub record Place : Type 0 where
  pub root : ℕ
  pub bindings : ℕ

abbrev pub place_of : Mark → Place
place_of m = record { root = m.root; bindings = m.length }

-- the settled version at which the drafts begin: the one in hand where there are none
abbrev pub beginning : Versions → Place
beginning v = record { root = v.begun_root; bindings = v.begun_length }

abbrev pub IsNoLater : Place → Place → Type 0
IsNoLater a b = (a.root ≤ b.root) × (a.bindings ≤ b.bindings)

-- each is no later than the next
abbrev pub AreInOrder : List Place → Type 0
AreInOrder [] = Unit
AreInOrder (a ∷ []) = Unit
AreInOrder (a ∷ b ∷ ps) = IsNoLater a b × AreInOrder (b ∷ ps)

-- a mark of a settled version that is alive
pub record IsLasting (v : Versions) (m : Mark) : Type 0 where
  pub settled : is_draft m ≡ false
  pub alive : IsAlive v m

-- each mark of a settled version keeps its proof
abbrev pub KeepsSettled : Versions → Versions → Type 0
KeepsSettled v w = (m : Mark) → is_draft m ≡ false → IsAlive v m → IsKept v w m

-- The marks are of settled versions of the tree and alive; and the past, the version at which the drafts begin and the future
-- are in the order in which the versions became lasting.
pub record IsHistoryOf (v : Versions) (h : Marks) : Type 0 where
  pub past : All (IsLasting v) h.past
  pub future : All (IsLasting v) h.future
  pub order : AreInOrder (map place_of h.past ++ beginning v ∷ map place_of h.future)

-- a mark of the version at which the drafts begin
pub record IsMarkOfBeginning (v : Versions) (m : Mark) : Type 0 where
  pub lasting : IsLasting v m
  pub place : place_of m ≡ beginning v

-- one step back: the last proof of the past is now the proof in hand, and the one in hand is the first of the future; or there was none
abbrev pub IsUndone : Bool → Lists → Lists → Proof → Proof → Type 0
IsUndone true old now p q = (old.past ≡ now.past ++ q ∷ []) × (now.future ≡ p ∷ old.future) × (now.depth ≡ old.depth)
IsUndone false old now p q = (old.past ≡ []) × (now ≡ old) × (q ≡ p)

-- one step forward
abbrev pub IsRedone : Bool → Lists → Lists → Proof → Proof → Type 0
IsRedone true old now p q = (old.future ≡ q ∷ now.future) × (now.past ≡ old.past ++ p ∷ []) × (now.depth ≡ old.depth)
IsRedone false old now p q = (old.future ≡ []) × (now ≡ old) × (q ≡ p)
