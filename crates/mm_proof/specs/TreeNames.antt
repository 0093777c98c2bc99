-- Names of trees.
use Rattle.std.specs.Prelude.{◌≡◌, ◌<◌, ℕ, ◌+◌, ◌-◌, Bool, ◌&&◌, nat_eq, nat_lt, List, [], ◌∷◌, ◌++◌, length, map, slice_get, slice_set, Option, None, Some, unwrap_or, ◌⊎◌, if◌then◌else◌}
use Rattle.std.specs.HashMap.{get}
use Rattle.mm_proof.specs.Trees.{Tree, Trees, none, more, tree, trees_of}
use Rattle.mm_proof.specs.Compacting.{Whole, found}
use Rattle.mm_proof.specs.declared.table.Table.{Table}
use Rattle.mm_proof.specs.declared.table.Part.{Part}

abbrev pub same_pair : ℕ × ℕ → ℕ × ℕ → Bool
same_pair p q = nat_eq p.0 q.0 && nat_eq p.1 q.1

-- the name for one child more
abbrev pub pair_at : Table → ℕ → ℕ → Option ℕ
pair_at t i j = get same_pair t.pairs (i, j)

-- the table has the name already
pub record IsKept (old new : Table) (name child k : ℕ) : Type 0 where
  pub has : pair_at old name child ≡ Some k
  pub same : new ≡ old

-- the table has one name more
pub record IsNew (old new : Table) (name child k : ℕ) : Type 0 where
  pub hasnt : pair_at old name child ≡ None
  pub next : k ≡ old.first + length old.places.items
  pub first : new.first ≡ old.first
  pub places : new.places.items ≡ old.places.items ++ None ∷ []
  pub pairs : (i j : ℕ) → pair_at new i j ≡ (if same_pair (name, child) (i, j) then Some k else pair_at old i j)

abbrev pub Named : Table → Table → ℕ → ℕ → ℕ → Type 0
Named old new name child k = IsKept old new name child k ⊎ IsNew old new name child k

-- trees with one more behind
abbrev pub behind : Trees → Tree → Trees
behind none c = more c.label c.children none
behind (more l cs rest) c = more l cs (behind rest c)

-- a tree with one child more
abbrev pub grown : Tree → Tree → Tree
grown t c = tree t.label (behind t.children c)

-- the tree with a name, where these are the trees that are no leaves, in order of name
abbrev pub den : ℕ → List Tree → ℕ → Option Tree
den first known n = if nat_lt n first then Some (tree n none) else slice_get known (n - first)

-- k names the tree that i names with the child that j names
pub record Grows (first : ℕ) (known : List Tree) (i j k : ℕ) : Type 0 where
  pub body : Tree
  pub child : Tree
  pub body_at : den first known i ≡ Some body
  pub child_at : den first known j ≡ Some child
  pub grown_at : den first known k ≡ Some (grown body child)

-- the parts of a tree have names, which lead to its own
pub record Parts (first : ℕ) (known : List Tree) (table : Table) (k : ℕ) (body child : Tree) : Type 0 where
  pub i : ℕ
  pub j : ℕ
  pub body_at : den first known i ≡ Some body
  pub child_at : den first known j ≡ Some child
  pub pair : pair_at table i j ≡ Some k

-- the table names these trees, each once, and has the places of those that are seen
pub record IsTable (first : ℕ) (table : Table) (known : List Tree) (seen : List Whole) : Type 0 where
  pub is_first : table.first ≡ first
  pub places : table.places.items ≡ map (found seen) known
  pub sound : (i j k : ℕ) → pair_at table i j ≡ Some k → Grows first known i j k
  pub parts : (k : ℕ) (body child : Tree) → den first known k ≡ Some (grown body child) → Parts first known table k body child
  pub distinct : (i j : ℕ) (t : Tree) → den first known i ≡ Some t → den first known j ≡ Some t → i ≡ j
  pub named : (t : Tree) (k : ℕ) → found seen t ≡ Some k → (n : ℕ) × (den first known n ≡ Some t)

abbrev pub Extends : ℕ → List Tree → List Tree → Type 0
Extends first before known = (n : ℕ) (t : Tree) → den first before n ≡ Some t → den first known n ≡ Some t

-- the table names what it named before, and n is the name of a tree
pub record Reached (first : ℕ) (table : Table) (seen : List Whole) (before : List Tree) (n : ℕ) (t : Tree) : Type 0 where
  pub known : List Tree
  pub is : IsTable first table known seen
  pub extends : Extends first before known
  pub at : den first known n ≡ Some t

abbrev pub AreNamed : ℕ → List Tree → List Part → List Tree → Type 0
AreNamed first known [] [] = Unit {0}
AreNamed first known [] (t ∷ ts) = ⊥
AreNamed first known (p ∷ ps) [] = ⊥
AreNamed first known (p ∷ ps) (t ∷ ts) = (den first known p.name ≡ Some t) × AreNamed first known ps ts

-- joins children to a label
abbrev pub Joins : Table → Table → List Part → ℕ → ℕ → Type 0
Joins old new children label n =
    (first : ℕ) (known : List Tree) (seen : List Whole) (ts : List Tree) → IsTable first old known seen → AreNamed first known children ts → label < first
    → Reached first new seen known n (tree label (trees_of ts))

-- the place that a table has by a name
abbrev pub place_at : Table → ℕ → Option ℕ
place_at t n = if nat_lt n t.first then None else unwrap_or (slice_get t.places.items (n - t.first)) None

-- the table has one place more
pub record Places (old new : Table) (n place : ℕ) : Type 0 where
  pub first : new.first ≡ old.first
  pub pairs : new.pairs ≡ old.pairs
  pub places : new.places.items ≡ (if nat_lt n old.first then old.places.items else slice_set old.places.items (n - old.first) (Some place))
