-- Substitutions, and the strings that they make.
use Rattle.std.specs.Prelude.{◌≡◌, List, [], ◌∷◌, ◌++◌, map, Option, Some, None, if◌then◌else◌}
use Rattle.std.specs.List.{flat_map}
use Rattle.mm_subst.specs.Symbols.{is_same}
use Rattle.mm_subst.specs.declared.symbol.WSym.{WSym}

-- a substitution: keys, each with its value, in the order in which they were put
abbrev pub Pairs : Type 0
Pairs = List (WSym × List WSym)

-- the value of a key
abbrev pub value_at : Pairs → WSym → Option (List WSym)
value_at [] x = None
value_at (p ∷ ps) x = if is_same p.0 x then Some p.1 else value_at ps x

-- no key comes twice
abbrev pub HasDistinctKeys : Pairs → Type 0
HasDistinctKeys [] = Unit {0}
HasDistinctKeys (p ∷ ps) = (value_at ps p.0 ≡ None) × HasDistinctKeys ps

abbrev pub or_itself : WSym → Option (List WSym) → List WSym
or_itself x None = x ∷ []
or_itself x (Some v) = v

-- what stands for a symbol: the value of a key; any other symbol stands for itself
abbrev pub value_of : Pairs → WSym → List WSym
value_of theta x = or_itself x (value_at theta x)

-- the string with each key replaced by its value
unfoldable pub applied : Pairs → List WSym → List WSym
applied theta s = flat_map (value_of theta) s

-- the keys of sigma with their values, theta applied to each
abbrev pub with_values : Pairs → Pairs → Pairs
with_values theta sigma = map (λ p. (p.0, applied theta p.1)) sigma

-- first sigma and then theta, as one substitution
abbrev pub then_by : Pairs → Pairs → Pairs
then_by theta sigma = with_values theta sigma ++ theta
