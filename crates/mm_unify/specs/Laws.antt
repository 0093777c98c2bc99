-- Laws of the search.
use Rattle.std.specs.Prelude.{ℕ, ◌+◌, ◌*◌, ◌≡◌, ◌≢◌, ◌<◌, ◌≤◌, ◌⊎◌, false, List, [], ◌∷◌, length, Option}
use Rattle.mm_subst.specs.Applied.{most_symbols}
use Rattle.mm_subst.specs.Symbols.{is_work, has_work}
use Rattle.mm_subst.specs.declared.symbol.WSym.{WSym}
use Rattle.mm_subst.specs.declared.symbol.WSym.TheVariants.{Work}
use Rattle.mm_subst.specs.declared.brackets.Brackets.{Brackets}
use Rattle.mm_unify.specs.declared.listing.Ended.TheVariants.{Whole, Trials}
use Rattle.mm_unify.specs.Forbidden.{Forbidden, forbidden_by}
use Rattle.mm_unify.specs.Search.{Node, Answer, explore, roots}

-- a value of one string, behind a typecode: it has no work variable, it is not empty, it is shorter than a string may
-- be, and it is not forbidden
pub record IsValue (f : Forbidden) (typecode : WSym) (v : List WSym) : Type 0 where
  pub fixed : is_work typecode ≡ false
  pub plain : has_work v ≡ false
  pub full : v ≢ []
  pub short : length v < most_symbols
  pub allowed : f.at_end v ≡ false

-- exactly that value, in one trial and two for each of its symbols
abbrev pub only : ℕ → List WSym → Answer
only n v = record { found = ((Work n, v) ∷ []) ∷ []; visited = 1 + 2 * length v; ended = Whole }

abbrev pub FindsValue : Type 0
FindsValue = (pairs : Option Brackets) (typecode : WSym) (n : ℕ) (v : List WSym) (trials : ℕ) → IsValue (forbidden_by pairs) typecode v → 1 + 2 * length v ≤ trials →
    (explore (forbidden_by pairs) trials (roots (typecode ∷ Work n ∷ []) (typecode ∷ v)) ≡ only n v) × (explore (forbidden_by pairs) trials (roots (typecode ∷ v) (typecode ∷ Work n ∷ [])) ≡ only n v)

-- where a search didn't end by its trials more of them change nothing
abbrev pub MoreChangeNothing : Type 0
MoreChangeNothing = (f : Forbidden) (trials further : ℕ) (nodes : List Node) → (explore f trials nodes).ended ≢ Trials → explore f (trials + further) nodes ≡ explore f trials nodes

-- where one of the strings has no work variable it doesn't matter which is the left one
abbrev pub HasNoSides : Type 0
HasNoSides = (f : Forbidden) (trials : ℕ) (a b : List WSym) → (has_work a ≡ false) ⊎ (has_work b ≡ false) → explore f trials (roots b a) ≡ explore f trials (roots a b)
