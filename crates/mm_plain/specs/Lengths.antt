-- Strings that are too long, and the first step that has one.
use Rattle.std.specs.Prelude.{ℕ, Bool, false, ◌||◌, List, length, nat_lt, Option, None, Some}
use Rattle.std.specs.List.{list_any}
use Rattle.mm_subst.specs.Applied.{most_symbols}
use Rattle.mm_subst.specs.declared.symbol.WSym.{WSym}
use Rattle.mm_plain.specs.declared.plain.Plain.{Plain}
use Rattle.mm_plain.specs.Shape.{steps_of, target_of}
use Rattle.mm_plain.specs.Sources.{source_of, sigma_of}
use Rattle.mm_plain.specs.Numbers.{first_from}

abbrev pub is_long : List WSym → Bool
is_long s = nat_lt most_symbols (length s)

abbrev pub is_long_source : Option (List WSym) → Bool
is_long_source None = false
is_long_source (Some s) = is_long s

-- whether the target of a step, its source, or a value of its substitution has too many symbols
unfoldable pub is_long_step : List ℕ → Plain → Bool
is_long_step bytes y = is_long (target_of y) || is_long_source (source_of bytes y) || list_any (λ p. is_long p.1) (sigma_of y)

-- the number of the first step of which one has
abbrev pub first_long : List ℕ → Plain → Option ℕ
first_long bytes x = first_from (is_long_step bytes) 1 (steps_of x)
