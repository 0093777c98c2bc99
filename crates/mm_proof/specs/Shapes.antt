-- How large a label tree is.
use Rattle.std.specs.Prelude.{ℕ, ◌+◌, min, max, List, [], ◌∷◌, Option, Some}
use Rattle.mm_proof.specs.Trees.{Tree, Trees, none, more}
use Rattle.mm_proof.specs.Folding.{onward}
use Rattle.mm_proof.specs.Compacting.{alone}
use Rattle.mm_proof.specs.declared.extent.Shape.{Shape}

-- how many steps trees have
abbrev pub steps_in : Trees → ℕ
steps_in none = 0
steps_in (more l cs rest) = 1 + steps_in cs + steps_in rest

-- the height of the highest of trees; that of one step is 1
abbrev pub height_in : Trees → ℕ
height_in none = 0
height_in (more l cs rest) = max (1 + height_in cs) (height_in rest)

-- greater numbers are told as this
abbrev pub most_told : ℕ
most_told = 4000000000

abbrev pub shape_of : Tree → Shape
shape_of t = record { steps = min most_told (1 + steps_in t.children); height = min most_told (1 + height_in t.children) }

-- the shape of the one tree, if there is one
abbrev pub shape_by : Option (List Tree) → Option Shape
shape_by trees = onward trees (λ ts. onward (alone ts) (λ t. Some (shape_of t)))

-- the steps and the height of shapes side by side
abbrev pub total : List Shape → ℕ
total [] = 0
total (s ∷ ss) = s.steps + total ss

abbrev pub greatest : List Shape → ℕ
greatest [] = 0
greatest (s ∷ ss) = max s.height (greatest ss)

-- the shape of a label over trees with these shapes
abbrev pub joined_shape : List Shape → Shape
joined_shape ss = record { steps = min most_told (1 + total ss); height = min most_told (1 + greatest ss) }
