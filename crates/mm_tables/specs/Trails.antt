-- Chains of nodes.
use Rattle.std.specs.Prelude.{map, ◌≤◌, ◌<◌, ◌==◌, ◌^◌, ℕ, suc, List, [], ◌∷◌, ◌++◌, length, reverse, All, if◌then◌else◌}
use Rattle.mm_tables.specs.Layered.{Layered}
use Rattle.mm_tables.specs.declared.trail.Node.{Node}

-- the values of the chain from a node, given by 1 more than its place, 0 for none; the nodes are seen newest first
unfoldable pub chain : List Node → ℕ → List ℕ
chain [] top = []
chain (node ∷ older) top = if top == suc (length older) then chain older node.below ++ node.value ∷ [] else chain older top

-- the same of the nodes in order
abbrev pub trail : List Node → ℕ → List ℕ
trail nodes top = chain (reverse nodes) top

-- the chains of what is in force now, where each open block began and at each moment
abbrev pub layers_of : List Node → ℕ → List ℕ → List ℕ → Layered ℕ
layers_of nodes top outer moments = record { now = trail nodes top; outer = map (trail nodes) outer; moments = map (trail nodes) moments }

-- each node's chain goes on at an earlier node
unfoldable pub Falls : List Node → Type 0
Falls [] = Unit {0}
Falls (node ∷ older) = (node.below ≤ length older) × Falls older

abbrev pub LinksFall : List Node → Type 0
LinksFall nodes = Falls (reverse nodes)

-- each chain begins at a node that is there
pub record AreChains (nodes : List Node) (top : ℕ) (outer moments : List ℕ) : Type 0 where
  pub falls : LinksFall nodes
  pub now : top ≤ length nodes
  pub blocks : All (λ t. t ≤ length nodes) outer
  pub noted : All (λ t. t ≤ length nodes) moments
  pub small : length nodes < 2 ^ 32
