-- The shapes of the trees of steps.
use Rattle.std.specs.Prelude.{◌-◌, List, Option, Some, slice_get}
use Rattle.mm_proof.specs.Shapes.{joined_shape}
use Rattle.mm_proof.specs.declared.extent.Shape.{Shape}
use Rattle.mm_proof.specs.declared.step.StepKind.{StepKind}
use Rattle.mm_proof.specs.declared.step.StepKind.TheVariants.{Hyp, Apply, Back, Unknown}

-- the shape of a step's tree, where these are the shapes of the trees before it and of those that it takes
abbrev pub shape_at : List Shape → List Shape → StepKind → Option Shape
shape_at trees children (Hyp s) = Some (joined_shape children)
shape_at trees children (Apply s) = Some (joined_shape children)
shape_at trees children (Back k) = slice_get trees (k - 1)
shape_at trees children Unknown = Some (joined_shape children)
