-- What a tree is seen as.
use Rattle.std.specs.Prelude.{ℕ, true, ◌+◌, ◌≤◌, ◌<◌, length, vec_len, vec_capacity}
use Rattle.mm_plain.specs.Shape.{Proof}
use Rattle.mm_tree.specs.Keyed.{IsKeyed}
use Rattle.mm_tree.specs.declared.keyed.Keyed.{Keyed}
use Rattle.mm_tree.specs.View.{values}
use Rattle.mm_tree.specs.Versions.{Versions, hand_plain, hand_node, hand_length, line_of, IsSound}
use Rattle.mm_tree.specs.declared.tree.Tree.TheInside.{Inside}

-- the proof in hand, and the versions that marks name
pub record State : Type 0 where
  pub proof : Proof
  pub versions : Versions

abbrev pub state_by : Versions → ℕ → State
state_by v next = record { proof = record { plain = hand_plain v; next = next }; versions = v }

abbrev pub versions_of : Inside → Versions
versions_of a = record {
  roots = values a.roots.items;
  trail = a.trail.items;
  draft_roots = values a.draft_roots.items;
  draft_bindings = a.draft_bindings.items;
  begun_root = a.begun_root;
  begun_length = a.begun_length;
  turn = a.turn;
}

abbrev pub state_of : Inside → State
state_of a = state_by (versions_of a) a.next

-- the version in hand
pub record IsWhole (v : Versions) (next : ℕ) : Type 0 where
  pub begun_root : v.begun_root < length v.roots
  pub begun_length : v.begun_length ≤ length v.trail
  pub sound : IsSound (hand_node v) (hand_length v) next
  pub turn : 1 ≤ v.turn

-- the keys of the settled bindings are found, and those of the version in hand
abbrev pub FindsKeys : Keyed → Versions → Type 0
FindsKeys keyed v = IsKeyed keyed v.trail × IsKeyed keyed (line_of v true)

-- There is room to settle the drafts, and the keys of all bindings are found.
pub record HasRoom (a : Inside) : Type 0 where
  pub whole : IsWhole (versions_of a) a.next
  pub roots : a.begun_root + 1 + vec_len a.draft_roots ≤ vec_capacity a.roots
  pub trail : a.begun_length + vec_len a.draft_bindings ≤ vec_capacity a.trail
  pub keyed : FindsKeys a.keyed (versions_of a)
