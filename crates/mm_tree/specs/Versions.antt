-- The versions of a tree, and which proof a mark names. Settled versions have their roots in one list and their bindings in
-- another. Drafts begin at a settled version, and have their roots and bindings in lists of their own.
use Rattle.std.specs.Prelude.{◌≡◌, ℕ, ◌+◌, ◌≤◌, ◌<◌, Bool, true, false, not, ◌==◌, List, [], ◌++◌, take, length, get_or}
use Rattle.mm_plain.specs.declared.plain.Plain.{Plain}
use Rattle.mm_plain.specs.Shape.{Proof}
use Rattle.mm_plain.specs.Valid.{most_works, most_steps, most_levels}
use Rattle.mm_tree.specs.Lines.{Line}
use Rattle.mm_tree.specs.Meanings.{mean, count, tall, youngest, unknown_timed}
use Rattle.mm_tree.specs.declared.timed.TimedTree.{TimedTree}
use Rattle.mm_tree.specs.declared.tree.Mark.{Mark}

pub record Versions : Type 0 where
  pub roots : List TimedTree
  pub trail : Line
  pub draft_roots : List TimedTree
  pub draft_bindings : Line
  -- where the drafts began: the root, and how many bindings
  pub begun_root : ℕ
  pub begun_length : ℕ
  -- raised as drafts are dropped or settled
  pub turn : ℕ

-- a mark of a draft has the turn of the drafts, and one of a settled version has none
abbrev pub is_draft : Mark → Bool
is_draft m = not (m.turn == 0)

-- the roots and the bindings up to the drafts, or those of the settled versions
abbrev pub roots_of : Versions → Bool → List TimedTree
roots_of v true = take (v.begun_root + 1) v.roots ++ v.draft_roots
roots_of v false = v.roots

abbrev pub line_of : Versions → Bool → Line
line_of v true = take v.begun_length v.trail ++ v.draft_bindings
line_of v false = v.trail

abbrev pub no_node : TimedTree
no_node = unknown_timed (record { birth = 0; string = [] })

abbrev pub node_of : Versions → Bool → ℕ → TimedTree
node_of v draft i = get_or (roots_of v draft) i no_node

-- the version in hand
abbrev pub hand_root : Versions → ℕ
hand_root v = v.begun_root + length v.draft_roots

abbrev pub hand_length : Versions → ℕ
hand_length v = v.begun_length + length v.draft_bindings

-- the version in hand has this root, and so many bindings
abbrev pub StandsAt : Versions → ℕ → ℕ → Type 0
StandsAt v root bindings = (hand_root v ≡ root) × (hand_length v ≡ bindings)

-- the drafts begin at the same settled version
abbrev pub BeginsAlike : Versions → Versions → Type 0
BeginsAlike v w = (w.begun_root ≡ v.begun_root) × (w.begun_length ≡ v.begun_length)

abbrev pub hand_node : Versions → TimedTree
hand_node v = node_of v true (hand_root v)

abbrev pub hand_plain : Versions → Plain
hand_plain v = mean (hand_node v) (line_of v true)

-- the proof that a mark names
abbrev pub named : Versions → Mark → Proof
named v m = record { plain = mean (node_of v (is_draft m) m.root) (take m.length (line_of v (is_draft m))); next = m.next }

-- a tree may be the root of a version with so many bindings, and this next work variable
pub record IsSound (x : TimedTree) (bindings next : ℕ) : Type 0 where
  pub born : youngest x ≤ bindings
  pub few : count x ≤ most_steps
  pub low : tall x ≤ most_levels
  pub first : 1 ≤ next
  pub last : next ≤ most_works + 1

-- the mark is alive
pub record IsAlive (v : Versions) (m : Mark) : Type 0 where
  pub root : m.root < length (roots_of v (is_draft m))
  pub long : m.length ≤ length (line_of v (is_draft m))
  pub sound : IsSound (node_of v (is_draft m) m.root) m.length m.next
  pub later : is_draft m ≡ true → (m.turn ≡ v.turn) × (v.begun_root ≤ m.root) × (v.begun_length ≤ m.length)

-- the mark is alive after, and names the same proof
pub record IsKept (v w : Versions) (m : Mark) : Type 0 where
  pub alive : IsAlive w m
  pub same : named w m ≡ named v m

-- each mark that is alive keeps its proof
abbrev pub KeepsMarks : Versions → Versions → Type 0
KeepsMarks v w = (m : Mark) → IsAlive v m → IsKept v w m

-- so does each mark of a settled version that is no later than that at which the drafts began
abbrev pub KeepsOlder : Versions → Versions → Type 0
KeepsOlder v w = (m : Mark) → is_draft m ≡ false → m.root ≤ v.begun_root → m.length ≤ v.begun_length → IsAlive v m → IsKept v w m

-- so does each mark of a settled version, and where n is a draft, of a draft no later than n
abbrev pub KeepsUpTo : Mark → Versions → Versions → Type 0
KeepsUpTo n v w = (m : Mark) → (is_draft m ≡ true → (is_draft n ≡ true) × (m.root ≤ n.root) × (m.length ≤ n.length)) → IsAlive v m → IsKept v w m

-- no version is a draft, but for its number of the next work variable
pub record HasNoDrafts (v : Versions) : Type 0 where
  pub no_roots : v.draft_roots ≡ []
  pub no_bindings : v.draft_bindings ≡ []
