-- The order of the list of unifiers.
use Rattle.std.specs.Prelude.{ℕ, ◌≡◌, ◌<◌, ◌⊎◌, false, List, [], ◌∷◌, length, Option}
use Rattle.std.specs.List.{AllPairs}
use Rattle.mm_subst.specs.Symbols.{has_work}
use Rattle.mm_subst.specs.Substitutions.{Pairs, value_of}
use Rattle.mm_subst.specs.declared.symbol.WSym.{WSym}
use Rattle.mm_subst.specs.declared.brackets.Brackets.{Brackets}
use Rattle.mm_unify.specs.Forbidden.{forbidden_by}
use Rattle.mm_unify.specs.Search.{explore, roots}

-- along a string u and v have the same values up to a symbol, and there u's value is the shorter one
abbrev pub IsBefore : List WSym → Pairs → Pairs → Type 0
IsBefore [] u v = ⊥
IsBefore (c ∷ s) u v = (length (value_of u c) < length (value_of v c)) ⊎ ((value_of u c ≡ value_of v c) × IsBefore s u v)

-- against a string without work variables each unifier listed stands before all later ones: shortest values first,
-- leftmost variable first
abbrev pub ListsInOrder : Type 0
ListsInOrder = (pairs : Option Brackets) (trials : ℕ) (a b : List WSym) → has_work b ≡ false →
    AllPairs (IsBefore a) (explore (forbidden_by pairs) trials (roots a b)).found × AllPairs (IsBefore a) (explore (forbidden_by pairs) trials (roots b a)).found
