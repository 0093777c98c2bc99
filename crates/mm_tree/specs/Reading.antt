-- A string that is read symbol by symbol: a work variable is bound by the first binding that has it as a key, and the value is
-- then read from the next binding on.
use Rattle.std.specs.Prelude.{◌≡◌, ℕ, ◌+◌, ◌*◌, ◌≤◌, ◌<◌, List, [], ◌∷◌, ◌++◌, drop, length, None}
use Rattle.mm_subst.specs.declared.symbol.WSym.{WSym}
use Rattle.mm_subst.specs.Substitutions.{applied}
use Rattle.mm_tree.specs.Lines.{Line, after}
use Rattle.mm_tree.specs.Keyed.{value_in}

-- j is the place of the first binding, from a place on, that has the key; or it is behind all bindings, and none has it
pub record IsFirst (line : Line) (x : WSym) (from j : ℕ) : Type 0 where
  pub reached : from ≤ j
  pub before : (i : ℕ) → from ≤ i → i < j → value_in line i x ≡ None
  pub found : value_in line j x ≡ None → length line ≤ j

-- what is left of a string: parts, the first of them last, each with the place of the first binding that it is read from
abbrev pub Parts : Type 0
Parts = List (List WSym × ℕ)

-- what the parts mean
abbrev pub meant : Line → Parts → List WSym
meant line [] = []
meant line (p ∷ ps) = meant line ps ++ after (drop p.1 line) p.0

-- how many symbols there are before, between and after the bindings
abbrev pub weight : Line → List WSym → ℕ
weight [] s = 2 * length s
weight (theta ∷ line) s = 2 * length s + weight line (applied theta s)

-- what is left to be done of parts
abbrev pub weights : Line → Parts → ℕ
weights line [] = 0
weights line (p ∷ ps) = weights line ps + weight (drop p.1 line) p.0 + 1

-- a symbol means what a string does from a place on, which is less to be done
pub record IsBound (line : Line) (x : WSym) (from : ℕ) (v : List WSym) (next : ℕ) : Type 0 where
  pub same : after (drop from line) (x ∷ []) ≡ after (drop next line) v
  pub less : weight (drop next line) v + 2 ≤ weight (drop from line) (x ∷ [])
