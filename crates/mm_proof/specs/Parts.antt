-- What stands on the stack of the writer.
use Rattle.std.specs.Prelude.{◌≡◌, ◌<◌, ℕ, Bool, true, false, not, ◌&&◌, ◌==◌, List, [], ◌∷◌, length, Some}
use Rattle.mm_proof.specs.Trees.{Tree, Trees, none, more, tree, trees_of, has_unknown}
use Rattle.mm_proof.specs.Compacting.{Whole, Writing, found, written}
use Rattle.mm_proof.specs.TreeNames.{den, IsTable, Extends, Places}
use Rattle.mm_proof.specs.declared.written.Step.{Step}
use Rattle.mm_proof.specs.declared.table.Table.{Table}
use Rattle.mm_proof.specs.declared.table.Part.{Part}

-- whether a label and its children have no unknown step
abbrev pub knows_all : ℕ → List Part → Bool
knows_all label [] = not (label == 0)
knows_all label (p ∷ ps) = p.known && knows_all label ps

abbrev pub start_of : ℕ → List Part → ℕ
start_of count [] = count
start_of count (p ∷ ps) = p.start

abbrev pub Keeps : Bool → Table → Table → ℕ → ℕ → Type 0
Keeps true old new name place = Places old new name place
Keeps false old new name place = new ≡ old

abbrev pub one : Tree → Trees
one t = more t.label t.children none

-- the part of a tree that is written behind these steps
pub record IsPart (first : ℕ) (known : List Tree) (w : Writing) (p : Part) (t : Tree) : Type 0 where
  pub named : den first known p.name ≡ Some t
  pub starts : p.start ≡ length w.steps
  pub knows : p.known ≡ not (has_unknown (one t))

-- the parts of trees that are written one behind the other
abbrev pub AreParts : ℕ → List Tree → Writing → List Part → List Tree → Type 0
AreParts first known w [] [] = Unit {0}
AreParts first known w [] (t ∷ ts) = ⊥
AreParts first known w (p ∷ ps) [] = ⊥
AreParts first known w (p ∷ ps) (t ∷ ts) = IsPart first known w p t × AreParts first known (written w (one t)) ps ts

abbrev pub IsIn : List Whole → ℕ → Trees → Type 0
IsIn seen l none = Unit {0}
IsIn seen l (more m ds qs) = (k : ℕ) × (found seen (tree l (more m ds qs)) ≡ Some k)

-- each of the trees is a leaf or seen
abbrev pub AreIn : List Whole → Trees → Type 0
AreIn seen none = Unit {0}
AreIn seen (more l cs rest) = IsIn seen l cs × AreIn seen rest

-- what is seen has its children seen
abbrev pub IsClosed : List Whole → Type 0
IsClosed seen = (t : Tree) (k : ℕ) → found seen t ≡ Some k → AreIn seen t.children

-- a tree's own step is written behind its children
pub record IsPlaced (first : ℕ) (table : Table) (before : List Tree) (w : Writing) (steps : List Step) (p : Part) (t : Tree) : Type 0 where
  pub known : List Tree
  pub is : IsTable first table known (written w (one t)).seen
  pub extends : Extends first before known
  pub part : IsPart first known w p t
  pub steps_are : steps ≡ (written w (one t)).steps

abbrev pub Placed : Table → Table → List Step → List Step → List Part → ℕ → Part → Type 0
Placed old new before after children label p =
    (first : ℕ) (known : List Tree) (w : Writing) (ts : List Tree)
    → IsTable first old known (written w (trees_of ts)).seen → IsClosed w.seen → AreParts first known w children ts → label < first
    → before ≡ (written w (trees_of ts)).steps → IsPlaced first new known w after p (tree label (trees_of ts))
