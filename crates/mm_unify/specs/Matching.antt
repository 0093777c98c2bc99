-- The plain list of matches of a pattern with a string that has no work variables.
use Rattle.std.specs.Prelude.{ℕ, zero, suc, ◌≡◌, ◌≤◌, false, not, List, [], ◌∷◌, ◌++◌, Bool, cond, Option, None, Some, map, take, drop, length, filter}
use Rattle.std.specs.List.{flat_map, list_all}
use Rattle.mm_subst.specs.Applied.{most_symbols}
use Rattle.mm_subst.specs.Symbols.{is_same, is_work, has_work}
use Rattle.mm_subst.specs.Substitutions.{Pairs, value_at}
use Rattle.mm_subst.specs.declared.symbol.WSym.{WSym}
use Rattle.mm_subst.specs.declared.brackets.Brackets.{Brackets}
use Rattle.mm_unify.specs.declared.listing.Ended.TheVariants.{Whole}
use Rattle.mm_unify.specs.Variables.{numbers}
use Rattle.mm_unify.specs.Unifying.{restricted}
use Rattle.mm_unify.specs.Forbidden.{Forbidden, forbidden_by}
use Rattle.mm_unify.specs.Listings.{answer}

-- 1, 2 and so on up to n
abbrev pub lengths : ℕ → List ℕ
lengths zero = []
lengths (suc n) = lengths n ++ suc n ∷ []

-- what follows a front of a string
abbrev pub behind : List WSym → List WSym → Option (List WSym)
behind [] s = Some s
behind (x ∷ xs) [] = None
behind (x ∷ xs) (y ∷ s) = cond (is_same x y) (behind xs s) None

abbrev pub onward : {A : Type 0} → (List WSym → List A) → Option (List WSym) → List A
onward f None = []
onward f (Some s) = f s

-- what a symbol of the pattern stands for, where that is known
abbrev pub known_value : Pairs → WSym → Option (List WSym)
known_value v x = cond (is_work x) (value_at v x) (Some (x ∷ []))

-- a symbol, and then the rest: what it stands for is known, or it takes each front of the string
abbrev pub by_value : (Pairs → List WSym → List Pairs) → WSym → Pairs → List WSym → Option (List WSym) → List Pairs
by_value rest x v s (Some w) = onward (rest v) (behind w s)
by_value rest x v s None = flat_map (λ n. rest (v ++ (x, take n s) ∷ []) (drop n s)) (lengths (length s))

-- The values of the work variables of a pattern that make it a string, in order of first occurrence: the shortest value
-- first, the leftmost variable first. Those so far are v; none is empty.
abbrev pub matches : List WSym → Pairs → List WSym → List Pairs
matches [] v [] = v ∷ []
matches [] v (c ∷ s) = []
matches (x ∷ b) v s = by_value (λ v s. matches b v s) x v s (known_value v x)

-- whether no value is forbidden
abbrev pub are_allowed : Forbidden → Pairs → Bool
are_allowed f v = list_all (λ q. not (f.at_end q.1)) v

-- Where one string has no work variable and is not too long, and the other begins with a symbol that is none either, the
-- search ends as Whole, and the list of unifiers is the list of the matches in which no value is forbidden.
abbrev pub ListsMatches : Type 0
ListsMatches = (pairs : Option Brackets) (s : List WSym) (d : WSym) (b : List WSym) → has_work s ≡ false → length s ≤ most_symbols → is_work d ≡ false →
    ((answer (forbidden_by pairs) None s (d ∷ b)).ended ≡ Whole) ×
    ((answer (forbidden_by pairs) None s (d ∷ b)).found ≡ map (λ v. restricted v (numbers (s ++ d ∷ b))) (filter (are_allowed (forbidden_by pairs)) (matches (d ∷ b) [] s)))
