-- Where work variables are bound: the places of bindings by their keys.
use Rattle.std.specs.Prelude.{◌≡◌, ℕ, ◌<◌, false, List, [], Contains, length, get_or, is_none, nat_eq, Option}
use Rattle.std.specs.Option.{option_map_or}
use Rattle.std.specs.HashMap.{get}
use Rattle.mm_subst.specs.declared.symbol.WSym.{WSym}
use Rattle.mm_subst.specs.declared.symbol.WSym.TheVariants.{Work}
use Rattle.mm_subst.specs.Substitutions.{value_at}
use Rattle.mm_tree.specs.Lines.{Line}
use Rattle.mm_tree.specs.declared.keyed.Keyed.{Keyed}

-- the places that are kept of a work variable
abbrev pub places_at : Keyed → ℕ → List ℕ
places_at keyed n = option_map_or (λ g. g.items) (get nat_eq keyed.places n) []

-- a place is kept of a symbol, which is a work variable
abbrev pub IsPlaced : Keyed → ℕ → WSym → Type 0
IsPlaced keyed i (Work n) = Contains (places_at keyed n) i
IsPlaced keyed i _ = ⊥

-- the value of a symbol in a binding, counted from 0; none behind the last one
abbrev pub value_in : Line → ℕ → WSym → Option (List WSym)
value_in line i x = value_at (get_or line i []) x

-- the place of each binding is kept of each of its keys
abbrev pub IsKeyed : Keyed → Line → Type 0
IsKeyed keyed line = (i : ℕ) (x : WSym) → i < length line → is_none (value_in line i x) ≡ false → IsPlaced keyed i x
