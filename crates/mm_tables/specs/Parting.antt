-- Groups by their numbers, in layers.
use Rattle.std.specs.Prelude.{◌≡◌, ◌<◌, ℕ, List, [], length, map, All, slice_index_or}
use Rattle.mm_tables.specs.Layered.{Layered}
use Rattle.mm_tables.specs.Nesting.{Nests}

-- the groups of these numbers
abbrev pub groups_of : List (List ℕ) → List ℕ → List (List ℕ)
groups_of groups numbers = map (λ n. slice_index_or groups n []) numbers

abbrev pub layers_of_groups : List (List ℕ) → Layered ℕ → Layered (List ℕ)
layers_of_groups groups l = record { now = groups_of groups l.now; outer = map (groups_of groups) l.outer; moments = map (groups_of groups) l.moments }

abbrev pub AreBelow : ℕ → List ℕ → Type 0
AreBelow n numbers = All (λ k. k < n) numbers

-- each number is one of the first n
pub record Knows (n : ℕ) (l : Layered ℕ) : Type 0 where
  pub now : AreBelow n l.now
  pub outer : All (AreBelow n) l.outer
  pub moments : All (AreBelow n) l.moments

-- a block began with this part of what is in force now
abbrev pub IsPart : List ℕ → List ℕ → Type 0
IsPart part block = block ≡ part

pub record AreInLayers (groups : List (List ℕ)) (l : Layered ℕ) (parted : List (List ℕ)) (heights : List ℕ) : Type 0 where
  pub knows : Knows (length groups) l
  pub now : parted ≡ groups_of groups l.now
  pub nests : Nests IsPart 0 heights l.outer l.now
