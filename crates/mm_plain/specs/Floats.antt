-- Children for floating hypotheses, and a tree in which they are unknown.
use Rattle.std.specs.Prelude.{ℕ, Bool, false, ◌&&◌, ◌||◌, List, [], ◌∷◌, is_some, if◌then◌else◌}
use Rattle.mm_scope.specs.Contents.{stated_at}
use Rattle.mm_stated.specs.Stated.{is_same_kind}
use Rattle.mm_stated.specs.declared.statement.Kind.TheVariants as kind
use Rattle.mm_plain.specs.declared.plain.Plain.{Plain}
use Rattle.mm_plain.specs.declared.plain.Plain.TheOpen.{Plain-F}
use Rattle.mm_plain.specs.declared.plain.Plain.TheOpen as P
use Rattle.mm_plain.specs.declared.plain.Plain.TheFolds as F
use Rattle.mm_plain.specs.declared.plain.Plain.TheViews as V
use Rattle.mm_plain.specs.Premises.{premise_ids}
use Rattle.mm_plain.specs.Shape.{Proof, unknown, known, target_of}
use Rattle.mm_plain.specs.Sources.{label_of}

abbrev pub is_float : List ℕ → ℕ → Bool
is_float bytes id = is_same_kind (stated_at bytes id).kind kind.Float

-- children of a step, by the hypotheses that they stand for: one for a `$f` is made unknown
abbrev pub without_floats : List ℕ → List ℕ → List Plain → List Plain
without_floats bytes [] xs = xs
without_floats bytes (id ∷ ids) [] = []
without_floats bytes (id ∷ ids) (x ∷ xs) = (if is_float bytes id then unknown (target_of x) else x) ∷ without_floats bytes ids xs

abbrev pub bared_step : List ℕ → Plain-F Plain → Plain
bared_step bytes (P.Unknown t) = unknown t
bared_step bytes (P.Known t l s kids) = known t l s (without_floats bytes (premise_ids bytes l) kids)

-- the tree in which each child for a `$f` is unknown
unfoldable pub bared : List ℕ → Plain → Plain
bared bytes = F.fold-Plain Plain (bared_step bytes)

abbrev pub bared_in : List ℕ → Proof → Proof
bared_in bytes p = record { plain = bared bytes p.plain; next = p.next }

-- whether some child for a `$f` is known
abbrev pub has_float_among : List ℕ → List ℕ → List Plain → Bool
has_float_among bytes [] xs = false
has_float_among bytes (id ∷ ids) [] = false
has_float_among bytes (id ∷ ids) (x ∷ xs) = is_float bytes id && is_some (label_of x) || has_float_among bytes ids xs

abbrev pub has_float_layer : List ℕ → Plain-F Plain → Bool
has_float_layer bytes (P.Unknown t) = false
has_float_layer bytes (P.Known t l s kids) = has_float_among bytes (premise_ids bytes l) kids

unfoldable pub has_float : List ℕ → Plain → Bool
has_float bytes x = has_float_layer bytes (V.out-Plain x)
