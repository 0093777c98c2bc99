-- Where the pairs of a substitution stand, by their keys.
use Rattle.std.specs.Prelude.{◌≡◌, ℕ, suc, List, [], ◌∷◌, drop, Option, None, Some, if◌then◌else◌}
use Rattle.std.specs.Map.{lookup}
use Rattle.mm_subst.specs.Substitutions.{Pairs}
use Rattle.mm_subst.specs.Symbols.{is_same}
use Rattle.mm_subst.specs.declared.symbol.WSym.{WSym}

-- so many pairs are gone through one by one
abbrev pub few : ℕ
few = 16

-- the place of a key among pairs, where the first stands at this one
abbrev pub place_from : ℕ → Pairs → WSym → Option ℕ
place_from first [] x = None
place_from first (p ∷ ps) x = if is_same p.0 x then Some first else place_from (suc first) ps x

-- what is kept of a key
abbrev pub kept_at : List (WSym × ℕ) → WSym → Option ℕ
kept_at places x = lookup (is_same x) places

-- of each key after the first few pairs its place is kept
abbrev pub ArePlaces : List (WSym × ℕ) → Pairs → Type 0
ArePlaces places ps = (x : WSym) → kept_at places x ≡ place_from few (drop few ps) x
