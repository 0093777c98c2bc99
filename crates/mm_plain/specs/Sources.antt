-- Sources of steps, and which steps are pending.
use Rattle.std.specs.Prelude.{ℕ, Bool, false, not, List, [], Option, None, Some}
use Rattle.std.specs.Cmp.Lexicographic.{pointwise}
use Rattle.mm_subst.specs.declared.symbol.WSym.{WSym}
use Rattle.mm_subst.specs.Symbols.{is_same}
use Rattle.mm_subst.specs.Substitutions.{Pairs, applied}
use Rattle.mm_plain.specs.declared.plain.Plain.{Plain}
use Rattle.mm_plain.specs.declared.plain.Plain.TheOpen.{Plain-F}
use Rattle.mm_plain.specs.declared.plain.Plain.TheOpen as P
use Rattle.mm_plain.specs.declared.plain.Plain.TheViews as V
use Rattle.mm_plain.specs.Shape.{target_of}
use Rattle.mm_subst.specs.Statements.{statement_of}

abbrev pub source_layer : List ℕ → Plain-F Plain → Option (List WSym)
source_layer bytes (P.Unknown t) = None
source_layer bytes (P.Known t l s kids) = Some (applied s (statement_of bytes l))

-- the source of a known step, which is what its statement says under its substitution
unfoldable pub source_of : List ℕ → Plain → Option (List WSym)
source_of bytes x = source_layer bytes (V.out-Plain x)

abbrev pub differs_from : Option (List WSym) → List WSym → Bool
differs_from None t = false
differs_from (Some s) t = not (pointwise is_same t s)

-- whether a step is known and its target is not its source
unfoldable pub is_pending : List ℕ → Plain → Bool
is_pending bytes x = differs_from (source_of bytes x) (target_of x)

abbrev pub label_layer : Plain-F Plain → Option ℕ
label_layer (P.Unknown t) = None
label_layer (P.Known t l s kids) = Some l

-- the id of the statement that a known step names
unfoldable pub label_of : Plain → Option ℕ
label_of x = label_layer (V.out-Plain x)

abbrev pub values_layer : Plain-F Plain → Pairs
values_layer (P.Unknown t) = []
values_layer (P.Known t l s kids) = s

-- the substitution of a known step
unfoldable pub sigma_of : Plain → Pairs
sigma_of x = values_layer (V.out-Plain x)
