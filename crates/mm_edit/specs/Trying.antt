-- Edits of several calls, which are gone back on where they are refused.
use Rattle.std.specs.Prelude.{◌≡◌, ◌≢◌, ℕ, true, false, List, Result, Ok, Err}
use Rattle.mm_subst.specs.Substitutions.{Pairs}
use Rattle.mm_plain.specs.Drawing.{fresh_for}
use Rattle.mm_plain.specs.Grafts.{raised}
use Rattle.mm_plain.specs.Shape.{Proof}
use Rattle.mm_tree.specs.Trees.{State}
use Rattle.mm_tree.specs.Versions.{HasNoDrafts, IsAlive, KeepsUpTo, StandsAt, is_draft, named}
use Rattle.mm_tree.specs.declared.tree.Mark.{Mark}
use Rattle.mm_edit.specs.Assigning.{draws}
use Rattle.mm_edit.specs.Steps.{is_spent}
use Rattle.mm_edit.specs.declared.edit_fault.EditFault.{EditFault}
use Rattle.mm_edit.specs.declared.edit_fault.EditFault.TheVariants.{WorkSpent, Memory}

-- the tree stands at the version of a mark again
pub record IsBack (m : Mark) (old now : State) : Type 0 where
  pub proof : now.proof ≡ named old.versions m
  pub settled : is_draft m ≡ false → HasNoDrafts now.versions
  pub marks : KeepsUpTo m old.versions now.versions
  pub hand : StandsAt now.versions m.root m.length

-- A work variable is drawn for each mandatory variable of a statement; or they are spent.
abbrev pub IsDrawnFor : List ℕ → ℕ → Result Pairs EditFault → Proof → Proof → Type 0
IsDrawnFor bytes id (Ok sigma) old now = (sigma ≡ fresh_for bytes old.next id) × (now ≡ raised (draws bytes id) old) × (is_spent old (draws bytes id) ≡ false)
IsDrawnFor bytes id (Err f) old now = f ≢ Memory → (f ≡ WorkSpent) × (is_spent old (draws bytes id) ≡ true)
