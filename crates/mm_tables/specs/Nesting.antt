-- Blocks that begin one in another.
use Rattle.std.specs.Prelude.{◌≤◌, ℕ, List, [], ◌∷◌, length, take}

-- what a block began with, against the part of a list that belongs to it
module _ {X : Type 0} (IsBlock : List ℕ → X → Type 0) where
  -- each open block began with so many of the list, and none with fewer than the one that it is in
  unfoldable pub Nests : ℕ → List ℕ → List X → List ℕ → Type 0
  Nests low [] [] now = low ≤ length now
  Nests low (height ∷ heights) (block ∷ outer) now = (low ≤ height) × IsBlock (take height now) block × Nests height heights outer now
  Nests low [] (block ∷ outer) now = ⊥
  Nests low (height ∷ heights) [] now = ⊥
