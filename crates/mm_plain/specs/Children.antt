-- The children of a step.
use Rattle.std.specs.Prelude.{List, []}
use Rattle.mm_plain.specs.declared.plain.Plain.{Plain}
use Rattle.mm_plain.specs.declared.plain.Plain.TheOpen.{Plain-F}
use Rattle.mm_plain.specs.declared.plain.Plain.TheOpen as P
use Rattle.mm_plain.specs.declared.plain.Plain.TheViews as V

abbrev pub children_layer : Plain-F Plain → List Plain
children_layer (P.Unknown t) = []
children_layer (P.Known t l s kids) = kids

-- the trees of a step's children, in order
unfoldable pub children_of : Plain → List Plain
children_of x = children_layer (V.out-Plain x)
