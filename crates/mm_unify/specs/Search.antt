-- The search for unifiers.
use Rattle.std.specs.Prelude.{ℕ, zero, suc, ◌+◌, List, [], ◌∷◌, ◌++◌, Bool, true, false, cond, not, ◌&&◌, ◌||◌, map, length, nat_lt, nat_le, count_by}
use Rattle.std.specs.List.{list_all, list_any}
use Rattle.mm_subst.specs.Symbols.{is_same, is_work}
use Rattle.mm_subst.specs.Substitutions.{Pairs, applied, with_values}
use Rattle.mm_subst.specs.Applied.{most_symbols}
use Rattle.mm_subst.specs.declared.symbol.WSym.{WSym}
use Rattle.mm_subst.specs.declared.symbol.WSym.TheVariants.{Work}
use Rattle.mm_unify.specs.declared.listing.Ended.{Ended}
use Rattle.mm_unify.specs.declared.listing.Ended.TheVariants.{Whole, Trials, Length}
use Rattle.mm_unify.specs.Variables.{numbers}
use Rattle.mm_unify.specs.Forbidden.{Forbidden}

-- a node of the search: what is left of both strings, and the values so far
pub record Node : Type 0 where
  pub left : List WSym
  pub right : List WSym
  pub values : Pairs

-- both strings without their equal heads
abbrev pub cut : List WSym → List WSym → List WSym × List WSym
cut [] r = ([], r)
cut (x ∷ l) [] = (x ∷ l, [])
cut (x ∷ l) (y ∷ r) = cond (is_same x y) (cut l r) (x ∷ l, y ∷ r)

abbrev pub count : WSym → List WSym → ℕ
count c s = count_by (is_same c) s

-- how many symbols are no work variables
abbrev pub plain_count : List WSym → ℕ
plain_count s = count_by (λ c. not (is_work c)) s

-- no values make the short side as long as the long side: each of its work variables occurs there as often or more
-- often, and it has fewer other symbols
abbrev pub falls_short : List WSym → List WSym → Bool
falls_short short long = list_all (λ c. not (is_work c) || nat_le (count c short) (count c long)) short && nat_lt (plain_count short) (plain_count long)

-- the single steps at two heads that differ, each a work variable and its value; none is a dead end
abbrev pub steps : WSym → WSym → List (WSym × List WSym)
steps x y =
    cond (is_work x)
    ((x, y ∷ []) ∷ (x, y ∷ x ∷ []) ∷ cond (is_work y) ((y, x ∷ y ∷ []) ∷ []) [])
    (cond (is_work y) ((y, x ∷ []) ∷ (y, x ∷ y ∷ []) ∷ []) [])

-- the node after a step
abbrev pub child : List WSym → List WSym → Pairs → WSym × List WSym → Node
child l r values p = record { left = applied (p ∷ []) l; right = applied (p ∷ []) r; values = with_values (p ∷ []) values }

-- what a node gives: a solution or none, and its children
pub record Visit : Type 0 where
  pub found : List Pairs
  pub children : List Node

abbrev pub dead_end : Visit
dead_end = record { found = []; children = [] }

-- a node whose heads differ
abbrev pub visit_cut : Forbidden → Pairs → List WSym → List WSym → Visit
visit_cut f values [] [] = record { found = cond (list_any (λ q. f.at_end q.1) values) [] (values ∷ []); children = [] }
visit_cut f values [] (y ∷ r) = dead_end
visit_cut f values (x ∷ l) [] = dead_end
visit_cut f values (x ∷ l) (y ∷ r) =
    cond (falls_short (x ∷ l) (y ∷ r) || falls_short (y ∷ r) (x ∷ l) || list_any (λ q. f.so_far q.1) values)
    dead_end
    (record { found = []; children = map (child (x ∷ l) (y ∷ r) values) (steps x y) })

unfoldable pub visit : Forbidden → Node → Visit
visit f node = visit_cut f node.values (cut node.left node.right).0 (cut node.left node.right).1

-- the unifiers found, in order, how many nodes were visited, and how the search ended
pub record Answer : Type 0 where
  pub found : List Pairs
  pub visited : ℕ
  pub ended : Ended

abbrev pub stop : Ended → Answer
stop e = record { found = []; visited = 0; ended = e }

abbrev pub after : List Pairs → Answer → Answer
after found rest = record { found = found ++ rest.found; visited = rest.visited + 1; ended = rest.ended }

-- whether a value has more symbols than a string may have
abbrev pub is_too_long : Node → Bool
is_too_long node = list_any (λ q. nat_lt most_symbols (length q.1)) node.values

-- one more visit, where no value is too long
abbrev pub unless_long : Bool → List Pairs → Answer → Answer
unless_long true found rest = stop Length
unless_long false found rest = after found rest

-- the search over the nodes that wait, the first one first, in at most n visits
unfoldable pub explore : Forbidden → ℕ → List Node → Answer
explore f n [] = stop Whole
explore f zero (node ∷ rest) = stop Trials
explore f (suc n) (node ∷ rest) = unless_long (is_too_long node) (visit f node).found (explore f n ((visit f node).children ++ rest))

-- the work variables with some numbers, each with itself as its value
abbrev pub selves : List ℕ → Pairs
selves ms = map (λ n. (Work n, Work n ∷ [])) ms

-- the first node of a search
abbrev pub root : List WSym → List WSym → Node
root a b = record { left = a; right = b; values = selves (numbers (a ++ b)) }

-- the first nodes: those of all searches of which a listing is made up
abbrev pub roots : List WSym → List WSym → List Node
roots a b = root a b ∷ []
